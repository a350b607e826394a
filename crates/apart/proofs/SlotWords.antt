-- The words of a place with its notes: what is read of them and put into them.
use Prim.Native.Nat.{ℕ, zero, suc, ◌+◌, ◌*◌, ◌≤◌, ◌<◌}
use mathlib.Core.Path.{◌≡◌, refl, sym, ap, ◌∙◌}
use mathlib.Core.List.{List, [], ◌∷◌, ◌++◌, append_assoc, map}
use native.Mathlib.Omega.{arith}
use native.Mathlib.Nat.{mul_comm}
use lib.Dec.{lit<, lit≤}
use lib.ListN.{length, take, drop, get_or, set, replicate, length-map, length-append, get_or-map}
use lib.Seq.{take_at, drop_at, length-take-le, get_or-take, get_or-drop}
use Rattle.words.specs.Words.{recs, splice}
use Rattle.words.proofs.Splice.{length-splice, splice_more}
use Rattle.regions.specs.Regions.{each, Holds}
use Rattle.regions.specs.Order.{Sorted, Bound, Sought}
use Rattle.regions.specs.Rows.{read_quad, quad_number, quad_of}
use Rattle.regions.proofs.Gap.{set_one}
use Rattle.regions.proofs.Regions.{length-padded, holds_at, column}
use Rattle.places.specs.declared.Head.{Head}
use Rattle.places.specs.Places.{Place, list_most, place_size, parents_at, stage_at, combined_at, wtxid_count_at}
use Rattle.places.specs.Places.{parent_count_at, kept_size, hash_words, list_words, place_words, place_key, head_of, read_head, HeadAt}
use Rattle.places.proofs.Places.{length-place, length-list, head-words, around_parents, length_front, head_back, parent-at}
use Rattle.places.proofs.Segments.{quad-in, splice_back, splice_again}
use Rattle.regions.proofs.Order.{number_quad}
use Rattle.package_stages.specs.Records.{place_hashes}
use Rattle.apart.specs.declared.slots.Note.{Note}
use Rattle.apart.specs.Apart.{kept_at, Slot, slot_words, with_notes, dying, note_of, at_rest, resting, plain}

-- ---- one place

module _ (x : Slot) where
  fore_long : length (take kept_at (place_words x.place)) ≡ kept_at
  fore_long = length-take-le kept_at (place_words x.place) (omega (arith, length-place x.place))

  pub length-slot : length (slot_words x) ≡ place_size
  unfolding slot_words
  length-slot = length-splice (place_words x.place) kept_at (x.low ∷ x.high ∷ []) (omega (arith, length-place x.place)) ∙ length-place x.place

  -- as far as the notes they are those of the place
  slot_fore : take kept_at (slot_words x) ≡ take kept_at (place_words x.place)
  unfolding slot_words splice
  slot_fore = take_at (take kept_at (place_words x.place)) ((x.low ∷ x.high ∷ []) ++ drop (kept_at + 2) (place_words x.place)) kept_at fore_long

  slot-behind : drop kept_at (slot_words x) ≡ x.low ∷ x.high ∷ drop (kept_at + 2) (place_words x.place)
  unfolding slot_words splice
  slot-behind = drop_at (take kept_at (place_words x.place)) ((x.low ∷ x.high ∷ []) ++ drop (kept_at + 2) (place_words x.place)) kept_at fore_long

head_fore : (w : List ℕ) → read_head (take kept_at w) ≡ read_head w
unfolding read_head
head_fore w =
    rw (
      quad-in w kept_at 0 (lit≤ tt),
      quad-in w kept_at combined_at (lit≤ tt),
      get_or-take kept_at w stage_at 0 (lit< tt),
      get_or-take kept_at w wtxid_count_at 0 (lit< tt),
      get_or-take kept_at w parent_count_at 0 (lit< tt),
    )

pub slot-head : (x : Slot) → read_head (slot_words x) ≡ head_of x.place
slot-head x = sym (head_fore (slot_words x)) ∙ ap read_head (slot_fore x) ∙ head_fore (place_words x.place) ∙ head_back x.place

pub slot-parent : (x : Slot) (j e : ℕ) → j < length x.place.parents → j < list_most → read_quad (drop (parents_at + 4 * j) (slot_words x)) ≡ quad_of (get_or x.place.parents j e)
slot-parent x j e h l =
    let a : ℕ = parents_at + 4 * j in
    sym (quad-in (slot_words x) kept_at a (omega arith)) ∙ ap (λ (w : List ℕ). read_quad (drop a w)) (slot_fore x) ∙ quad-in (place_words x.place) kept_at a (omega arith)
    ∙ parent-at x.place j e h l

slot-key : (x : Slot) → place_key (slot_words x) ≡ x.place.hash
unfolding read_head head_of
slot-key x = ap (λ (h : Head). quad_number h.hash) (slot-head x) ∙ number_quad x.place.hash

slot-low : (x : Slot) → get_or (slot_words x) kept_at 0 ≡ x.low
slot-low x = sym (get_or-drop kept_at (slot_words x) 0 0) ∙ ap (λ (w : List ℕ). get_or w 0 0) (slot-behind x)

slot-high : (x : Slot) → get_or (slot_words x) (kept_at + 1) 0 ≡ x.high
slot-high x = sym (get_or-drop kept_at (slot_words x) 1 0) ∙ ap (λ (w : List ℕ). get_or w 1 0) (slot-behind x)

pub slot-dies : (x : Slot) → splice (slot_words x) stage_at (0 ∷ []) ≡ slot_words (dying x)
unfolding slot_words splice place_words hash_words
slot-dies x = refl

pub slot-noted : (a c : ℕ) (x : Slot) → splice (slot_words x) kept_at (a ∷ c ∷ []) ≡ slot_words (with_notes a c x)
unfolding slot_words splice
slot-noted a c x =
    let l = length-place x.place in
    splice_again (place_words x.place) kept_at 2 0 (x.low ∷ x.high ∷ []) (a ∷ c ∷ []) refl (omega arith) (lit≤ tt) refl refl

pub slot_rest : (p : Place) → slot_words (at_rest p) ≡ place_words p
unfolding slot_words splice
slot_rest p =
    let f : List ℕ = (head-words p ++ list_words p.wtxids) ++ list_words p.parents in
    let l : length f ≡ kept_at = length-append (head-words p ++ list_words p.wtxids) (list_words p.parents) ∙ (let a = length_front p in let c = length-list p.parents in omega arith) in
    let e : place_words p ≡ f ++ replicate kept_size 0 =
    around_parents p ∙ sym (append_assoc (head-words p ++ list_words p.wtxids) (list_words p.parents) (replicate kept_size 0)) in
    ap (λ (w : List ℕ). splice w kept_at (0 ∷ 0 ∷ [])) e ∙ splice_back f (replicate kept_size 0) kept_at 0 (0 ∷ 0 ∷ []) l ∙ sym e

-- ---- places in a region

pub rest_each : (ps : List Place) → each slot_words (resting ps) ≡ each place_words ps
unfolding each
rest_each [] = refl
rest_each (p ∷ ps) = rw (slot_rest p, rest_each ps)

module _ (Q : ℕ) (xs : List Slot) {w : List ℕ} (few : length xs ≤ Q) (h : Holds place_size slot_words Q xs w) where
  region-long : length w ≡ place_size * Q
  region-long = ap length h ∙ length-padded (place_size * Q) (each slot_words xs)

  module _ (i : ℕ) (d : Slot) (l : i < length xs) where
    pub region-room : place_size * (i + 1) ≤ length w
    region-room = omega (arith, region-long)

    pub region-slot : take place_size (drop (place_size * i) w) ≡ slot_words (get_or xs i d)
    region-slot = holds_at place_size slot_words length-slot w i region-room Q xs d l h

    pub region-head : {r : Head} → HeadAt w i r → r ≡ head_of (get_or xs i d).place
    region-head x = x.words_are ∙ ap read_head region-slot ∙ slot-head (get_or xs i d)

    word_in : (j : ℕ) → j < place_size → get_or w (i * place_size + j) 0 ≡ get_or (slot_words (get_or xs i d)) j 0
    word_in j g = ap (λ (n : ℕ). get_or w (n + j) 0) (mul_comm i place_size) ∙ sym (get_or-drop (place_size * i) w j 0) ∙ sym (get_or-take place_size (drop (place_size * i) w) j 0 g)
        ∙ ap (λ (v : List ℕ). get_or v j 0) region-slot

    pub region-note : {a c : ℕ} → a ≡ get_or w (i * place_size + kept_at) 0 → c ≡ get_or w (i * place_size + kept_at + 1) 0
        → ◌≡◌ {A = Note} (record { low = a; high = c }) (note_of (get_or xs i d))
    region-note {a} {c} e f =
        let n : i * place_size + kept_at + 1 ≡ i * place_size + (kept_at + 1) = omega arith in
        let p : a ≡ (get_or xs i d).low = e ∙ word_in kept_at (lit< tt) ∙ slot-low (get_or xs i d) in
        let q : c ≡ (get_or xs i d).high = f ∙ ap (λ (j : ℕ). get_or w j 0) n ∙ word_in (kept_at + 1) (lit< tt) ∙ slot-high (get_or xs i d) in
        (λ j. record { low = p j; high = q j })

  hashes-of : (ys : List Slot) → map (λ y. y.place.hash) ys ≡ place_hashes (plain ys)
  hashes-of [] = refl
  hashes-of (y ∷ ys) = ap (λ (l : List ℕ). y.place.hash ∷ l) (hashes-of ys)

  pub slot_sought : {n x r : ℕ} → n ≡ length xs → Sought (recs place_size place_key n w) n x r → Sorted (place_hashes (plain xs)) → Bound (place_hashes (plain xs)) x r
  slot_sought e s o =
      let q = ap (λ (j : ℕ). recs place_size place_key j w) e ∙ column place_size slot_words length-slot place_key (λ y. y.place.hash) slot-key Q xs few h ∙ hashes-of xs in
      rw q at (s.bound (rw q o))

-- two words stored, one after the other
pub two_put : (w : List ℕ) {w₁ w₂ : List ℕ} (i a c : ℕ) → place_size * (i + 1) ≤ length w → w₁ ≡ set w (i * place_size + kept_at) a → w₂ ≡ set w₁ (i * place_size + kept_at + 1) c
    → w₂ ≡ splice w (place_size * i + kept_at) (a ∷ c ∷ [])
two_put w {w₁} {w₂} i a c l p q =
    let n : i * place_size ≡ place_size * i = mul_comm i place_size in
    let b : ℕ = i * place_size + kept_at in
    let e : w₁ ≡ splice w b (a ∷ []) = p ∙ set_one w b a (omega arith) in
    let m : length w₁ ≡ length w = ap length e ∙ length-splice w b (a ∷ []) (omega arith) in
    q ∙ set_one w₁ (b + 1) c (omega arith) ∙ ap (λ (v : List ℕ). splice v (b + 1) (c ∷ [])) e ∙ splice_more w b (b + 1) (a ∷ []) (c ∷ []) refl (omega arith)
    ∙ ap (λ (j : ℕ). splice w (j + kept_at) (a ∷ c ∷ [])) n

-- ---- the places of a list

pub plain_at : (xs : List Slot) (i : ℕ) (p : Place) → get_or (plain xs) i p ≡ (get_or xs i (at_rest p)).place
plain_at xs i p = get_or-map (λ (x : Slot). x.place) xs i (at_rest p)

pub plain-long : (xs : List Slot) → length (plain xs) ≡ length xs
plain-long xs = length-map xs (λ (x : Slot). x.place)

pub plain_rest : (ps : List Place) → plain (resting ps) ≡ ps
plain_rest [] = refl
plain_rest (p ∷ ps) = ap (λ (l : List Place). p ∷ l) (plain_rest ps)

pub plain-set : (xs : List Slot) (i : ℕ) (y : Slot) → plain (set xs i y) ≡ set (plain xs) i y.place
plain-set [] i y = refl
plain-set (x ∷ xs) zero y = refl
plain-set (x ∷ xs) (suc i) y = ap (λ (l : List Place). x.place ∷ l) (plain-set xs i y)
