-- The records, and the state, that an image shows are those that it was made of.
use Prim.Native.Nat.{ℕ, ◌+◌, ◌*◌}
use mathlib.Core.Path.{◌≡◌, refl, sym, ap, ◌∙◌}
use mathlib.Core.List.{List, [], ◌∷◌, ◌++◌, append_assoc}
use native.Mathlib.Omega.{arith}
use lib.ListN.{length, drop, length-append}
use lib.Seq.{drop_at, drop-drop}
use Rattle.words.specs.Words.{recs}
use Rattle.regions.specs.declared.Row.{Row}
use Rattle.regions.specs.Regions.{each}
use Rattle.regions.specs.Rows.{row_size, row_words, read_row, conn_size, conn_words, read_conn}
use Rattle.regions.proofs.Regions.{length-padded}
use Rattle.places.specs.Places.{Place, place_size, place_words, PlaceShort}
use Rattle.machine.specs.Limits.{need}
use Rattle.machine.specs.State.{State}
use Rattle.machine.specs.Sound.{Sound}
use Rattle.machine.specs.Typed.{Each}
use Rattle.store.specs.Flat.{Flat, flat_of}
use Rattle.store.specs.Gather.{state_in}
use Rattle.store.specs.FlatSound.{PlaceFits, FlatSound}
use Rattle.store.specs.Image.{head_size, head_words, words_of, image}
use Rattle.store.specs.Read.{read_place, head_in, flat_in, state_of}
use Rattle.store.proofs.Dress.{state_back}
use Rattle.store.proofs.ToFlat.{flat_sound}
use Rattle.store.proofs.ReadBack.{rows_back, conns_back, places_back}
use Rattle.store.proofs.HeadWords.{in_words, head-words, head-length, head_back}
use Rattle.store.proofs.Frame.{row_part, conn_part, place_part}
use Rattle.store.proofs.WordsFit.{staged, few_conns}

-- ---- how long it is

-- "the documented need for L and Q"
pub length-image : (f : Flat) → 8 * length (words_of f) ≡ need f.head.limit f.head.places
unfolding words_of need
length-image f =
    let h : length (head_words f.head (length f.rows) (length f.conns) (length f.places)) ≡ head_size = head-length f.head (length f.rows) (length f.conns) (length f.places) in
    let r : length (row_part f.head.limit f.rows) ≡ row_size * f.head.limit = length-padded (row_size * f.head.limit) (each row_words f.rows) in
    let c : length (conn_part f.head.limit f.conns) ≡ conn_size * f.head.limit = length-padded (conn_size * f.head.limit) (each conn_words f.conns) in
    let p : length (place_part f.head.places f.places) ≡ place_size * f.head.places = length-padded (place_size * f.head.places) (each place_words f.places) in
    simp length-append (omega arith)

-- ---- read back

-- what lies past a part whose length is known
past : (a b : List ℕ) (n m : ℕ) → length a ≡ n → drop (n + m) (a ++ b) ≡ drop m b
past a b n m e = sym (drop-drop m n (a ++ b)) ∙ ap (drop m) (drop_at a b n e)

short-places : (rs : List Row) (ps : List Place) → Each (PlaceFits rs) ps → Each PlaceShort ps
short-places rs [] a = tt
short-places rs (p ∷ ps) a = (record { wtxids = (staged p.stage p a.0.stage).few; parents = a.0.parents.few }, short-places rs ps a.1)

module _ (f : Flat) (z : List ℕ) where
  abbrev behind_rows : List ℕ
  behind_rows = conn_part f.head.limit f.conns ++ (place_part f.head.places f.places ++ z)

  abbrev parts : List ℕ
  parts = in_words f.head (length f.rows) (length f.conns) (length f.places) ++ (row_part f.head.limit f.rows ++ behind_rows)

  in_parts : words_of f ++ z ≡ parts
  unfolding words_of
  in_parts = rw (head-words f.head (length f.rows) (length f.conns) (length f.places)) (simp append_assoc)

  head_read : head_in parts ≡ f.head
  head_read =
      let n = length f.rows in
      let c = length f.conns in
      let q = length f.places in
      let behind = row_part f.head.limit f.rows ++ behind_rows in
      ap (λ (w : List ℕ). head_in (w ++ behind)) (sym (head-words f.head n c q)) ∙ head_back f.head n c q behind

  at_conns : drop (head_size + row_size * f.head.limit) parts ≡ behind_rows
  at_conns =
      past (in_words f.head (length f.rows) (length f.conns) (length f.places)) (row_part f.head.limit f.rows ++ behind_rows) head_size (row_size * f.head.limit) refl
      ∙ drop_at (row_part f.head.limit f.rows) behind_rows (row_size * f.head.limit) (length-padded (row_size * f.head.limit) (each row_words f.rows))

  at_places : drop (head_size + (row_size + conn_size) * f.head.limit) parts ≡ place_part f.head.places f.places ++ z
  at_places =
      let e : head_size + (row_size + conn_size) * f.head.limit ≡ head_size + row_size * f.head.limit + conn_size * f.head.limit = omega arith in
      ap (λ (n : ℕ). drop n parts) e
      ∙ sym (drop-drop (conn_size * f.head.limit) (head_size + row_size * f.head.limit) parts)
      ∙ ap (drop (conn_size * f.head.limit)) at_conns
      ∙ drop_at (conn_part f.head.limit f.conns) (place_part f.head.places f.places ++ z) (conn_size * f.head.limit)
      (length-padded (conn_size * f.head.limit) (each conn_words f.conns))

  pub flat_read : FlatSound f → flat_in (words_of f ++ z) ≡ f
  unfolding flat_in
  flat_read s =
      let rows : recs row_size read_row (length f.rows) (row_part f.head.limit f.rows ++ behind_rows) ≡ f.rows = rows_back f.head.limit f.rows behind_rows s.rows_few in
      let conns : recs conn_size read_conn (length f.conns) (drop (head_size + row_size * f.head.limit) parts) ≡ f.conns =
      ap (recs conn_size read_conn (length f.conns)) at_conns ∙ conns_back f.head.limit f.conns (place_part f.head.places f.places ++ z) (few_conns f s) in
      let places : recs place_size read_place (length f.places) (drop (head_size + (row_size + conn_size) * f.head.limit) parts) ≡ f.places =
      ap (recs place_size read_place (length f.places)) at_places ∙ places_back f.head.places f.places z s.places_few (short-places f.rows f.places s.places-fit) in
      ap flat_in in_parts ∙ (λ i. record { head = head_read i; rows = rows i; conns = conns i; places = places i })

-- ---- the state

pub image-state : (s : State) (z : List ℕ) → Sound s → state_of (image s ++ z) ≡ s
unfolding image state_of
image-state s z h = ap state_in (flat_read (flat_of s) z (flat_sound s h)) ∙ state_back s h

-- "each state has one byte image", and no image is that of two
pub image_injective : (s t : State) → Sound s → Sound t → image s ≡ image t → s ≡ t
image_injective s t h g e = sym (image-state s [] h) ∙ ap (λ (w : List ℕ). state_of (w ++ [])) e ∙ image-state t [] g
