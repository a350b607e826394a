-- What the writers of a listing leave, and how far they go.
use Rattle.std.specs.Prelude.{ℕ, ◌+◌, ◌*◌, ◌<◌, ◌≤◌, ◌≡◌, List, [], ◌∷◌, ◌++◌, map, length, get_or}
use Rattle.ident.specs.declared.Hash.{Hash}
use Rattle.ident.specs.Words.{hash_num}
use Rattle.words.specs.Words.{splice}
use Rattle.regions.specs.declared.Row.{Row}
use Rattle.machine.specs.State.{Request, State}
use Rattle.machine.specs.Sound.{Sound}
use Rattle.machine.specs.Step.{written}
use Rattle.machine.specs.Text.{decimal_digits, hash_digits, joined}
use Rattle.machine.specs.Listing.{short, hash_fields, list_fields, maybe_fields, package_fields, Line, CandidateLine, line_fields, text_of, listing}
use Rattle.store.specs.Gather.{candidate_at}
use Rattle.store.specs.Image.{Writes}
use Rattle.lines.specs.Text.{with_commas, number_room, key_room}

-- ---- a text that is measured, and written where it fits

-- the text from index a on, if it ends inside s; and the index behind it, in any case
pub record Lays (s s' : List ℕ) (a : ℕ) (text : List ℕ) (r : ℕ) : Type 0 where
  pub next : r ≡ a + length text
  pub long : length s' ≡ length s
  pub bytes : r ≤ length s → s' ≡ splice s a text

-- ---- the most bytes of each part

-- no listing is as long: 168 bytes for the first line, 13,221 for a request's line and 131 for a candidate's, at most 100,000 of each
abbrev pub farthest : ℕ
farthest = 2000000000

-- a comma and a hash
abbrev pub hash_room : ℕ
hash_room = 1 + hash_digits

-- a candidate's line: three numbers, an item, a bool, four commas and a line feed
abbrev pub candidate_room : ℕ
candidate_room = decimal_digits + (1 + key_room) + number_room + 2 + number_room + 1

-- n hashes, each behind a comma
abbrev pub hashes_room : ℕ → ℕ
hashes_room n = hash_room * n

-- an owner; a package and a list of parents of 100 hashes each
abbrev pub owner_room : ℕ
owner_room = 2 * number_room

abbrev pub package_room : ℕ
package_room = hash_room + number_room + hashes_room 100 + 2

abbrev pub parents_room : ℕ
parents_room = number_room + hashes_room 100

abbrev pub place_room : ℕ
place_room = package_room + parents_room

-- a request's line
abbrev pub request_room : ℕ
request_room = key_room + owner_room + 2 + place_room + 2 + 1

-- the first line: L, Q, next poll, two cursors
abbrev pub head_room : ℕ
head_room = decimal_digits + 2 * number_room + 2 * (1 + key_room) + 1

-- ---- texts

-- n hashes hs, each behind a comma, stand from index a on, where each answer that `Answers` allows at j is the j-th of them
pub record LaysHashes (Answers : ℕ → Hash → Type 0) (u u' : List ℕ) (a n e : ℕ) : Type 0 where
  pub is : (hs : List ℕ) → n ≡ length hs → ((j : ℕ) (h : Hash) → j < n → Answers j h → hash_num h ≡ get_or hs j 0) → Lays u u' a (with_commas (hash_fields short hs)) e

-- a line with its line feed
unfoldable pub line_text : Line → List ℕ
line_text l = joined (line_fields short l) ++ (10 ∷ [])

-- package and parents of a request
abbrev pub place_texts : Request → List (List ℕ)
place_texts r = maybe_fields (package_fields short) r.«package» ++ list_fields short r.parents

-- the lines of the candidates that rows show
abbrev pub row_texts : List Row → List ℕ
row_texts rs = text_of short (map (λ r. CandidateLine (candidate_at r)) rs)

-- ---- the whole

-- r is the listing's length, and the listing stands at the front of u' if u has room for it; the rest of u stays
pub record Saved (st : State) (u u' : List ℕ) (r : ℕ) : Type 0 where
  pub length_is : r ≡ length (listing st)
  pub stands : length (listing st) ≤ length u → u' ≡ written (listing st) u

-- whatever sound state the bytes write
abbrev pub Saves : List ℕ → List ℕ → List ℕ → ℕ → Type 0
Saves b u u' r = (st : State) → Sound st → Writes b st → Saved st u u' r

abbrev pub Measures : List ℕ → ℕ → Type 0
Measures b r = (st : State) → Sound st → Writes b st → r ≡ length (listing st)
