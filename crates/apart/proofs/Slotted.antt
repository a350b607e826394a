-- The places that are set apart: one read, searched, killed, in the array or behind the store.
use Prim.Native.Nat.{ℕ, ◌+◌, ◌-◌, ◌*◌, ◌≤◌, ◌<◌}
use mathlib.Core.Path.{◌≡◌, refl, sym, ap, subst, ◌∙◌}
use mathlib.Core.List.{List, [], ◌∷◌, ◌++◌, append-nil}
use native.Mathlib.Omega.{arith}
use lib.Dec.{lit<, lit≤}
use lib.ListN.{length, take, drop, get_or, set, length-drop, length-set}
use lib.Seq.{take_all, take_at, drop_at, get_or-drop, drop-set-add, drop-set-lt, take-set-le, length-take-le}
use Rattle.words.specs.Words.{words, splice}
use Rattle.words.proofs.Parts.{words-lent}
use Rattle.regions.specs.Regions.{each, Holds}
use Rattle.regions.proofs.Regions.{padded-fit, changed}
use Rattle.places.specs.declared.Head.{Head}
use Rattle.places.specs.Places.{place_size, head_of, HeadAt}
use Rattle.apart.specs.declared.slots.Note.{Note}
use Rattle.apart.specs.Apart.{slot_bytes, Slot, slot_words, note_of, Slots, SlotOf, Loaded, HeadIn, NoteAt, NoteIn, Altered}
use Rattle.apart.proofs.SlotWords.{length-slot, region-room, region-slot, region-head}

-- ---- lists

pub first_one : {A : Type 0} (l : List A) (d : A) → 0 < length l → take 1 l ≡ get_or l 0 d ∷ []
first_one [] d h = absurd (omega arith)
first_one (a ∷ l) d h = refl

pub later_one : {A : Type 0} (l : List A) (i : ℕ) (d : A) → 0 < i → get_or (drop 1 l) (i - 1) d ≡ get_or l i d
later_one l i d h = get_or-drop 1 l (i - 1) d ∙ ap (λ (j : ℕ). get_or l j d) (omega arith)

later-long : {A : Type 0} (l : List A) (i : ℕ) → 0 < i → i < length l → i - 1 < length (drop 1 l)
later-long l i h g = rw (length-drop 1 l) (omega arith)

-- all that is behind m is lent
pub rest_lent : (b : List ℕ) (m : ℕ) → take (length b - m) (drop m b) ≡ drop m b
rest_lent b m = take_all (length b - m) (drop m b) (omega (arith, length-drop m b))

-- ---- one place

pub one_holds : (x : Slot) {w : List ℕ} → w ≡ slot_words x → Holds place_size slot_words 1 (x ∷ []) w
unfolding each
one_holds x e =
    let l : length (slot_words x ++ []) ≡ place_size = ap length (append-nil (slot_words x)) ∙ length-slot x in
    let z : place_size - length (slot_words x ++ []) ≡ 0 = omega arith in
    e ∙ sym (padded-fit place_size (slot_words x ++ []) (omega arith) ∙ rw (z, append-nil, append-nil))

pub slot-words : (z : List ℕ) (x : Slot) → SlotOf z x → words z ≡ slot_words x
slot-words z x h = h ∙ sym (one_holds x refl)

pub copied_out : (r : List ℕ) (i : ℕ) {x y : ℕ} {z : List ℕ} → x ≡ i * slot_bytes → y ≡ x + slot_bytes → slot_bytes * (i + 1) ≤ length r → z ≡ take (y - x) (drop x r)
    → words z ≡ take place_size (drop (place_size * i) (words r))
copied_out r i {x} {y} {z} ex ey l e =
    let a : x ≡ place_size * i * 8 = omega arith in
    let b : y - x ≡ (place_size * i + place_size) * 8 - place_size * i * 8 = omega arith in
    let c : place_size * i + place_size - place_size * i ≡ place_size = omega arith in
    ap words e ∙ rw (b, a, words-lent r (place_size * i) (place_size * i + place_size) (omega arith) (omega arith), c)

module _ {b f : List ℕ} {m Q : ℕ} {xs : List Slot} (s : Slots b f m Q xs) where
  pub first_slot : (d : Slot) → 0 < length xs → SlotOf f (get_or xs 0 d)
  first_slot d h = subst (λ (l : List Slot). Holds place_size slot_words 1 l (words f)) (first_one xs d h) s.first

  rest_few : length (drop 1 xs) ≤ Q - 1
  rest_few = omega (arith, s.few, length-drop 1 xs)

  pub later-slot : (i : ℕ) (d : Slot) → 0 < i → i < length xs → (z : List ℕ) → words z ≡ take place_size (drop (place_size * (i - 1)) (words (drop m b))) → SlotOf z (get_or xs i d)
  later-slot i d h l z e =
      one_holds (get_or xs i d) (e ∙ region-slot (Q - 1) (drop 1 xs) rest_few s.rest (i - 1) d (later-long xs i h l) ∙ ap slot_words (later_one xs i d h))

  -- ---- its head, its notes

  pub first_head : (d : Slot) → 0 < length xs → {r : Head} → HeadAt (words f) 0 r → r ≡ head_of (get_or xs 0 d).place
  first_head d h x = region-head 1 (get_or xs 0 d ∷ []) (lit≤ tt) (first_slot d h) 0 d (lit< tt) x

  pub later-head : (i : ℕ) (d : Slot) → 0 < i → i < length xs → {r : Head} → HeadAt (words (drop m b)) (i - 1) r → r ≡ head_of (get_or xs i d).place
  later-head i d h l x = region-head (Q - 1) (drop 1 xs) rest_few s.rest (i - 1) d (later-long xs i h l) x ∙ ap (λ (y : Slot). head_of y.place) (later_one xs i d h)

  pub first_note : (d : Slot) → 0 < length xs → {r : Note} → NoteAt (words f) 0 r → r ≡ note_of (get_or xs 0 d)
  first_note d h x = x.region 1 (get_or xs 0 d ∷ []) d (lit≤ tt) (lit< tt) (first_slot d h)

  pub later-note : (i : ℕ) (d : Slot) → 0 < i → i < length xs → {r : Note} → NoteAt (words (drop m b)) (i - 1) r → r ≡ note_of (get_or xs i d)
  later-note i d h l x = x.region (Q - 1) (drop 1 xs) d rest_few (later-long xs i h l) s.rest ∙ ap note_of (later_one xs i d h)

  -- ---- some of its words are replaced

  module _ (j : ℕ) (y : List ℕ) (g : Slot → Slot) (fits : j + length y ≤ place_size) (law : (x : Slot) → splice (slot_words x) j y ≡ slot_words (g x)) where
    pub first_alters : (d : Slot) → 0 < length xs → {f' : List ℕ} → words f' ≡ splice (words f) (place_size * 0 + j) y → Slots b f' m Q (set xs 0 (g (get_or xs 0 d)))
    first_alters d h {f'} e =
        let n = length-set xs 0 (g (get_or xs 0 d)) in
        let x = changed place_size slot_words length-slot (words f) 0 (region-room 1 (get_or xs 0 d ∷ []) (lit≤ tt) (first_slot d h) 0 d (lit< tt)) j y g fits law e in
        record {
          some = s.some;
          few = omega (arith, s.few);
          first = subst (λ (l : List Slot). Holds place_size slot_words 1 l (words f')) (sym (first_one (set xs 0 (g (get_or xs 0 d))) d (omega arith) ∙ go xs h)) (x.region 1 (get_or xs 0 d ∷ [])
              d (lit< tt) (first_slot d h));
          rest = subst (λ (l : List Slot). Holds place_size slot_words (Q - 1) l (words (drop m b))) (sym (drop-set-lt 1 xs 0 (g (get_or xs 0 d)) (omega arith))) s.rest;
        }
      where
        go : (l : List Slot) → 0 < length l → get_or (set l 0 (g (get_or l 0 d))) 0 d ∷ [] ≡ g (get_or l 0 d) ∷ []
        go [] h = absurd (omega arith)
        go (p ∷ l) h = refl

    pub later_alters : (i : ℕ) (d : Slot) → 0 < i → i < length xs → {b' : List ℕ} → words (drop m b') ≡ splice (words (drop m b)) (place_size * (i - 1) + j) y
        → Slots b' f m Q (set xs i (g (get_or xs i d)))
    later_alters i d h l {b'} e =
        let z = g (get_or xs i d) in
        let n = length-set xs i z in
        let x = changed place_size slot_words length-slot (words (drop m b)) (i - 1) (region-room (Q - 1) (drop 1 xs) rest_few s.rest (i - 1) d (later-long xs i h l)) j y g fits law e in
        let c : drop 1 (set xs i z) ≡ set (drop 1 xs) (i - 1) (g (get_or (drop 1 xs) (i - 1) d)) =
        ap (λ (j : ℕ). drop 1 (set xs j z)) (omega arith) ∙ drop-set-add 1 xs (i - 1) z ∙ ap (λ (p : Slot). set (drop 1 xs) (i - 1) (g p)) (sym (later_one xs i d h)) in
        record {
          some = s.some;
          few = omega (arith, s.few);
          first = subst (λ (q : List Slot). Holds place_size slot_words 1 q (words f)) (sym (take-set-le 1 xs i z h)) s.first;
          rest = subst (λ (q : List Slot). Holds place_size slot_words (Q - 1) q (words (drop m b'))) (sym c) (x.region (Q - 1) (drop 1 xs) d (later-long xs i h l) s.rest);
        }

-- the part behind m, lent and come back
module _ (b w : List ℕ) (m : ℕ) (l : m ≤ length b) (n : length w ≡ length (take (length b - m) (drop m b))) where
  abbrev back : List ℕ
  back = take m b ++ (w ++ drop (length b - m) (drop m b))

  pub front_stays : take m back ≡ take m b
  front_stays = take_at (take m b) (w ++ drop (length b - m) (drop m b)) m (length-take-le m b l)

  pub rest_is : drop m back ≡ w
  rest_is =
      drop_at (take m b) (w ++ drop (length b - m) (drop m b)) m (length-take-le m b l)
      ∙ ap (λ (z : List ℕ). w ++ z) (none (drop (length b - m) (drop m b)) (length-drop (length b - m) (drop m b) ∙ (let e = length-drop m b in omega arith))) ∙ append-nil w
    where
      none : (z : List ℕ) → length z ≡ 0 → z ≡ []
      none [] h = refl
      none (a ∷ z) h = absurd (omega arith)

-- ---- what the functions answer

module _ {b f : List ℕ} (m i : ℕ) where
  pub loaded_first : {z : List ℕ} → i ≡ 0 → z ≡ f → Loaded b f m i z
  loaded_first {z} e q Q xs d l s =
      let h : 0 < length xs = omega arith in
      subst (λ (j : ℕ). SlotOf z (get_or xs j d)) (sym e) (subst (λ (y : List ℕ). SlotOf y (get_or xs 0 d)) (sym q) (first_slot s d h))

  pub loaded_later : (z : List ℕ) → 0 < i → words z ≡ take place_size (drop (place_size * (i - 1)) (words (take (length b - m) (drop m b)))) → Loaded b f m i z
  loaded_later z h e Q xs d l s = later-slot s i d h l z (rw (rest_lent b m) at e)

  pub head_first : {r : Head} → i ≡ 0 → HeadAt (words f) 0 r → HeadIn b f m i r
  head_first {r} e x Q xs d l s =
      let h : 0 < length xs = omega arith in
      subst (λ (j : ℕ). r ≡ head_of (get_or xs j d).place) (sym e) (first_head s d h x)

  pub head-later : {r : Head} → 0 < i → HeadAt (words (take (length b - m) (drop m b))) (i - 1) r → HeadIn b f m i r
  head-later h x Q xs d l s = later-head s i d h l (rw (rest_lent b m) at x)

  pub note_first : {r : Note} → i ≡ 0 → NoteAt (words f) 0 r → NoteIn b f m i r
  note_first {r} e x Q xs d l s =
      let h : 0 < length xs = omega arith in
      subst (λ (j : ℕ). r ≡ note_of (get_or xs j d)) (sym e) (first_note s d h x)

  pub note-later : {r : Note} → 0 < i → NoteAt (words (take (length b - m) (drop m b))) (i - 1) r → NoteIn b f m i r
  note-later h x Q xs d l s = later-note s i d h l (rw (rest_lent b m) at x)

  module _ (j : ℕ) (y : List ℕ) (g : Slot → Slot) (fits : j + length y ≤ place_size) (law : (x : Slot) → splice (slot_words x) j y ≡ slot_words (g x)) where
    pub altered_first : {f' : List ℕ} → i ≡ 0 → words f' ≡ splice (words f) (place_size * 0 + j) y → Altered b b f f' m i g
    altered_first {f'} e x = record {
      front = refl;
      slots = λ Q xs d l s.
          let h : 0 < length xs = omega arith in
          subst (λ (k : ℕ). Slots b f' m Q (set xs k (g (get_or xs k d)))) (sym e) (first_alters s j y g fits law d h x);
    }

    pub altered_later : (w : List ℕ) → 0 < i → m ≤ length b → length w ≡ length (take (length b - m) (drop m b))
        → words w ≡ splice (words (take (length b - m) (drop m b))) (place_size * (i - 1) + j) y
        → Altered b (take m b ++ (w ++ drop (length b - m) (drop m b))) f f m i g
    altered_later w h k n x = record {
      front = front_stays b w m k n;
      slots = λ Q xs d l s. later_alters s j y g fits law i d h l (rw (rest_is b w m k n) (rw (rest_lent b m) at x));
    }
