-- Places one after the other.
use Prim.Native.Nat.{ℕ, zero, suc, ◌+◌, ◌-◌, ◌*◌, ◌≤◌, ◌<◌}
use mathlib.Core.Path.{◌≡◌, refl, sym, ap, ◌∙◌}
use mathlib.Core.Logic.{inl, inr}
use mathlib.Core.Bool.{Bool}
use mathlib.Core.List.{List, [], ◌∷◌, ◌++◌}
use native.Mathlib.Omega.{arith}
use lib.Dec.{ltb}
use lib.ListN.{length, take, drop, get_or, length-drop}
use lib.Seq.{take-add, take_at, drop_at, get_or-take, length-take-le}
use borrow.Author.Tests.{ltb-true, ltb-false}
use Rattle.words.specs.Words.{recs, words, Decides}
use Rattle.words.proofs.Words.{length-words}
use Rattle.words.proofs.Parts.{words-lent}
use Rattle.words.proofs.Records.{length-recs, recs_at}
use Rattle.regions.specs.declared.Row.{Row}
use Rattle.regions.specs.declared.Quad.{Quad}
use Rattle.regions.specs.Regions.{each}
use Rattle.regions.specs.Rows.{read_quad, quad_number}
use Rattle.places.specs.Places.{Place, place_size, place_key, place_words, blank}
use Rattle.places.proofs.Places.{length-place}
use Rattle.machine.specs.Typed.{Each}
use Rattle.machine.proofs.Tests.{test}
use Rattle.store.specs.FlatSound.{PlaceFits, PlacesAscend}
use Rattle.store.specs.Read.{read_hash, read_place}
use Rattle.sound.specs.Places.{PlaceSound, PlacesSound, place_at, PlaceFollows}
use Rattle.sound_rows.proofs.Decide.{Iff, rest_turn, rest_all, rest_none}

-- ---- records by index

module _ {A : Type 0} (P : A → Type 0) (k : ℕ) (f : List ℕ → A) (n : ℕ) (w : List ℕ) where
  pub each_of : ((i : ℕ) → i < n → P (f (take k (drop (k * i) w)))) → Each P (recs k f n w)
  each_of g = rw (← (rest_all k f n w)) (go n 0 (omega arith))
    where
      go : (d i : ℕ) → i + d ≡ n → Each P (recs k f (n - i) (drop (k * i) w))
      go zero i e = rw (rest_none k f n i w (omega arith)) tt
      go (suc d) i e = rw (rest_turn k f n i w (omega arith)) (g i (omega arith), go d (i + 1) (omega arith))

  pub of_each : Each P (recs k f n w) → (i : ℕ) → i < n → P (f (take k (drop (k * i) w)))
  of_each e i h =
      let d : A = f (take k (drop (k * i) w)) in
      rw (recs_at k f n w i d h) at (at (recs k f n w) e i d (rw (length-recs k f n w) h))
    where
      at : (l : List A) → Each P l → (i : ℕ) (d : A) → i < length l → P (get_or l i d)
      at [] e i d h = absurd (omega arith)
      at (a ∷ l) e zero d h = e.0
      at (a ∷ l) e (suc i) d h = at l e.1 i d (omega arith)

-- ---- the words of all places

abbrev Exact : List ℕ → Type 0
Exact u = u ≡ place_words (read_place u)

exact_all : (n : ℕ) (w : List ℕ) → place_size * n ≤ length w → Iff (Each Exact (recs place_size (λ u. u) n w)) (take (place_size * n) w ≡ each place_words (recs place_size read_place n w))
unfolding recs each
exact_all zero w h = record { to = λ _. refl; from = λ _. tt }
exact_all (suc n) w h =
    let e : place_size * suc n ≡ place_size + place_size * n = omega arith in
    let m : place_size * n ≤ length (drop place_size w) = simp length-drop (omega arith) in
    let t : length (take place_size w) ≡ place_size = length-take-le place_size w (omega arith) in
    let g : take (place_size * suc n) w ≡ take place_size w ++ take (place_size * n) (drop place_size w) = rw e (take-add place_size (place_size * n) w) in
    let i = exact_all n (drop place_size w) m in
    let p : List ℕ = place_words (read_place (take place_size w)) in
    let r : List ℕ = each place_words (recs place_size read_place n (drop place_size w)) in
    let l : length p ≡ place_size = length-place (read_place (take place_size w)) in
    record {
      to = λ x. g ∙ ap (λ (u : List ℕ). u ++ take (place_size * n) (drop place_size w)) x.0 ∙ ap (λ (u : List ℕ). p ++ u) (i.to x.1);
      from = λ x. let y : take place_size w ++ take (place_size * n) (drop place_size w) ≡ p ++ r = sym g ∙ x in (
        sym (take_at (take place_size w) _ place_size t) ∙ ap (take place_size) y ∙ take_at p r place_size l,
        i.from (sym (drop_at (take place_size w) _ place_size t) ∙ ap (drop place_size) y ∙ drop_at p r place_size l),
      );
    }

-- ---- the order of the places

rising : (lo : ℕ) (ps : List Place) (d : Place) → PlacesAscend lo ps → (i : ℕ) → suc i < length ps → (get_or ps i d).hash < (get_or ps (suc i) d).hash
rising lo [] d a i h = absurd (omega arith)
rising lo (p ∷ []) d a i h = absurd (omega arith)
rising lo (p ∷ q ∷ ps) d a zero h = a.1.0
rising lo (p ∷ q ∷ ps) d a (suc i) h = rising (suc p.hash) (q ∷ ps) d a.1 i (omega arith)

ascending : (lo : ℕ) (ps : List Place) (d : Place) → (0 < length ps → lo ≤ (get_or ps 0 d).hash) → ((i : ℕ) → suc i < length ps → (get_or ps i d).hash < (get_or ps (suc i) d).hash)
    → PlacesAscend lo ps
ascending lo [] d a f = tt
ascending lo (p ∷ ps) d a f = (a (omega arith), ascending (suc p.hash) ps d (λ h. f 0 (omega arith)) (λ i h. f (suc i) (omega arith)))

module _ (n : ℕ) (w : List ℕ) where
  key-at : (i : ℕ) → i < n → (get_or (recs place_size read_place n w) i (blank 0 0)).hash ≡ place_key (place_at w i)
  unfolding read_place read_hash
  key-at i h = ap (λ (p : Place). p.hash) (recs_at place_size read_place n w i (blank 0 0) h)

  pub follow_iff : Iff ((i : ℕ) → i < n → PlaceFollows w i) (PlacesAscend 0 (recs place_size read_place n w))
  follow_iff = record {
    to = λ f. ascending 0 ps d (λ h. omega arith) (λ i h. let l : suc i < n = rw (length-recs place_size read_place n w) at h in
        let e : suc i - 1 ≡ i = omega arith in
        rw (key-at i (omega arith), key-at (suc i) l) (rw e at (f (suc i) l (omega arith))));
    from = λ a i h p. let e : suc (i - 1) ≡ i = omega arith in
        rw (← (key-at (i - 1) (omega arith)), ← (key-at i h)) (rw e at (rising 0 ps d a (i - 1) (rw (length-recs place_size read_place n w, e) h)));
  }
    where
      ps : List Place
      ps = recs place_size read_place n w

      d : Place
      d = blank 0 0

-- (of the bytes s of the places)
module _ (rs : List Row) (n : ℕ) (s : List ℕ) (h : 8 * (place_size * n) ≤ length s) where
  exact : Iff (Each Exact (recs place_size (λ u. u) n (words s))) (take (place_size * n) (words s) ≡ each place_words (recs place_size read_place n (words s)))
  exact = exact_all n (words s) (omega (arith, h, length-words s))

  pub places_made : ((i : ℕ) → i < n → PlaceSound rs (place_at (words s) i)) → ((i : ℕ) → i < n → PlaceFollows (words s) i) → PlacesSound rs n (words s)
  places_made f g = record {
    words_are = exact.to (each_of Exact place_size (λ u. u) n (words s) (λ i l. (f i l).words_are));
    fit = each_of (PlaceFits rs) place_size read_place n (words s) (λ i l. (f i l).fit);
    ascend = (follow_iff n (words s)).to g;
  }

  pub place_of : PlacesSound rs n (words s) → (i : ℕ) → i < n → PlaceSound rs (place_at (words s) i)
  place_of z i l = record {
    words_are = of_each Exact place_size (λ u. u) n (words s) (exact.from z.words_are) i l;
    fit = of_each (PlaceFits rs) place_size read_place n (words s) z.fit i l;
  }

-- ---- turns of the loop

quad_take : (u : List ℕ) → read_quad (take place_size u) ≡ read_quad u
quad_take u = rw (get_or-take place_size u 0 0 (omega arith), get_or-take place_size u 1 0 (omega arith), get_or-take place_size u 2 0 (omega arith), get_or-take place_size u 3 0 (omega arith))

-- as `read_quad` reads it
pub key-read : (w : List ℕ) (i : ℕ) {q : Quad} → q ≡ read_quad (drop (i * 824) w) → quad_number q ≡ place_key (place_at w i)
key-read w i e =
    let g : i * 824 ≡ place_size * i = omega arith in
    ap quad_number (e ∙ ap (λ (k : ℕ). read_quad (drop k w)) g ∙ sym (quad_take (drop (place_size * i) w)))

pub follows-decides : (w : List ℕ) (i : ℕ) {p q : Quad} {b : Bool} → 0 < i → p ≡ read_quad (drop ((i - 1) * 824) w) → q ≡ read_quad (drop (i * 824) w) → b ≡ ltb (quad_number p) (quad_number q)
    → Decides b (PlaceFollows w i)
follows-decides w i {p} {q} h e f g = elim (test (ltb (quad_number p) (quad_number q))) [
  | inl t ↦ rw (g, t) (λ _. rw (← (key-read w (i - 1) e), ← (key-read w i f)) (ltb-true _ _ t))
  | inr t ↦ rw (g, t) (λ z. native.Mathlib.Nat.not-le_of_lt (z h) (rw (← (key-read w (i - 1) e), ← (key-read w i f)) (ltb-false _ _ t)))
]

-- the words of a place that is lent
pub place-lent : (s : List ℕ) (i : ℕ) → 8 * (place_size * (i + 1)) ≤ length s → words (take ((i * 824 + 824) * 8 - i * 824 * 8) (drop (i * 824 * 8) s)) ≡ place_at (words s) i
place-lent s i h =
    let e : i * 824 + 824 - i * 824 ≡ place_size = omega arith in
    let g : i * 824 ≡ place_size * i = omega arith in
    words-lent s (i * 824) (i * 824 + 824) (omega arith) (omega arith) ∙ rw (e, g)

-- for the tactic
pub ruleset follows = (follows-decides)
