-- The one image of a state, as a list of words (docs/STORE.md), and what bytes write.
use Rattle.std.specs.Prelude.{ℕ, ◌*◌, ◌≤◌, ◌<◌, ◌≡◌, List, [], ◌∷◌, ◌++◌, length, take, drop, replicate, get_or}
use Rattle.std.proofs.Math.Option.{Option, none, some}
use Rattle.ident.specs.declared.Kind.{Kind}
use Rattle.ident.specs.declared.Kind.TheVariants.{Txid, Wtxid}
use Rattle.ident.specs.Number.{Key}
use Rattle.words.specs.Words.{words, bytes_of}
use Rattle.regions.specs.Regions.{each, padded}
use Rattle.regions.specs.Rows.{quad_words, quad_of, row_size, row_words, conn_size, conn_words}
use Rattle.places.specs.Places.{place_size, place_words}
use Rattle.machine.specs.Limits.{need}
use Rattle.machine.specs.State.{State}
use Rattle.machine.specs.Sound.{Sound}
use Rattle.store.specs.Flat.{Head, Flat, flat_of}

-- ---- the header: 24 words

-- format 1: a full tracker
abbrev pub format : ℕ
format = 1

-- whether there is a next poll, and when
abbrev pub poll_words : Option ℕ → List ℕ
poll_words none = 0 ∷ 0 ∷ []
poll_words (some n) = 1 ∷ n ∷ []

-- 0 no cursor, 1 Txid, 2 Wtxid; then its hash
abbrev pub cursor_tag : Kind → ℕ
cursor_tag Txid = 1
cursor_tag Wtxid = 2

abbrev pub cursor_words : Option Key → List ℕ
cursor_words none = replicate 5 0
cursor_words (some k) = cursor_tag k.kind ∷ quad_words (quad_of k.hash)

-- format, L, Q; rows, connections and places in use; next poll; the cursors; six spare words
unfoldable pub head_words : Head → ℕ → ℕ → ℕ → List ℕ
head_words h rows conns places =
    (format ∷ h.limit ∷ h.places ∷ rows ∷ conns ∷ places ∷ []) ++ (poll_words h.next_poll ++ (cursor_words h.known_cursor ++ (cursor_words h.ready_cursor ++ replicate 6 0)))

abbrev pub head_size : ℕ
head_size = 24

-- ---- header, rows, connections, places; words that are not in use are zero

unfoldable pub words_of : Flat → List ℕ
words_of f =
    head_words f.head (length f.rows) (length f.conns) (length f.places)
    ++ (padded (row_size * f.head.limit) (each row_words f.rows)
    ++ (padded (conn_size * f.head.limit) (each conn_words f.conns) ++ padded (place_size * f.head.places) (each place_words f.places)))

unfoldable pub image : State → List ℕ
image s = words_of (flat_of s)

-- ---- bytes

-- each number is a byte
abbrev pub Bytes : List ℕ → Type 0
Bytes b = (i : ℕ) → get_or b i 0 < 256

-- the bytes that a store of the state needs
abbrev pub need_of : State → ℕ
need_of s = need s.limit s.places

-- bytes that write a flat state, and a state: "each state has one byte image at its L and Q"
pub record Shows (b : List ℕ) (f : Flat) : Type 0 where
  pub long : length b ≡ need f.head.limit f.head.places
  pub words_are : words b ≡ words_of f

abbrev pub Writes : List ℕ → State → Type 0
Writes b s = Shows b (flat_of s)

-- "a sound store": its bytes as far as the need write a sound state
pub record SoundStore (b : List ℕ) : Type 0 where
  pub state : State
  pub sound : Sound state
  pub long : need state.limit state.places ≤ length b
  pub writes : Writes (take (need state.limit state.places) b) state

-- b with the image of s over its need: "bytes past the need .. stay"
unfoldable pub stored : State → List ℕ → List ℕ
stored s b = bytes_of (image s) ++ drop (need s.limit s.places) b
