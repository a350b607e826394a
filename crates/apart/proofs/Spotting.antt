-- The place of a hash among those that are set apart.
use Prim.Native.Nat.{ℕ, zero, suc, ◌+◌, ◌-◌, ◌≤◌, ◌<◌}
use mathlib.Core.Path.{◌≡◌, refl, sym, ap, subst, ◌∙◌}
use mathlib.Core.Logic.{inl, inr}
use mathlib.Core.List.{List, [], ◌∷◌}
use native.Mathlib.Nat.{le_refl}
use native.Mathlib.Omega.{arith}
use lib.Dec.{ltb}
use lib.ListN.{length, take, drop, get_or, length-map}
use borrow.Author.Tests.{ltb-true, ltb-false}
use Rattle.std.specs.Prelude as rust
use Rattle.std.proofs.lemmas.Option.{none-some, same_Some}
use Rattle.ident.specs.declared.Kind.TheVariants.{Txid}
use Rattle.ident.specs.Number.{Key, wtxid}
use Rattle.words.specs.Words.{words, recs}
use Rattle.regions.specs.declared.Quad.{Quad}
use Rattle.regions.specs.Order.{Sorted, Bound, Sought}
use Rattle.regions.specs.Rows.{quad_number, quad_of}
use Rattle.regions.proofs.Order.{number_quad}
use Rattle.places.specs.declared.Head.{Head}
use Rattle.places.specs.Places.{Place, place_size, place_key, head_of, HeadAt}
use Rattle.machine.proofs.Tests.{test}
use Rattle.store.specs.FlatSound.{PlacesAscend}
use Rattle.store.proofs.Window.{places-sorted}
use Rattle.package_stages.specs.Records.{place_hashes}
use Rattle.package_stages.proofs.Seeking.{head-hash, head-stage, head-parents, hash_at_lem}
use Rattle.apart.specs.Apart.{Slot, at_rest, plain, Slots, HeadIn, SoughtIn, SpotHeld, SpotNone, SpotIn}
use Rattle.apart.proofs.SlotWords.{slot_sought, plain_at, plain-long}
use Rattle.apart.proofs.Slotted.{rest_lent, first_head}

-- ---- a search

hashes-long : (ps : List Place) → length (place_hashes ps) ≡ length ps
hashes-long ps = length-map ps (λ (p : Place). p.hash)

tail-sorted : (x : ℕ) (xs : List ℕ) → Sorted (x ∷ xs) → Sorted xs
unfolding Sorted
tail-sorted x xs s p q h l = s (suc p) (suc q) (omega arith) (omega arith)

bound-later : (x : ℕ) (xs : List ℕ) (y r : ℕ) → x < y → Bound xs y r → Bound (x ∷ xs) y (r + 1)
bound-later x xs y r h b = record { most = omega (arith, b.most); below = lower; above = upper }
  where
    lower : (k : ℕ) → k < r + 1 → get_or (x ∷ xs) k 0 < y
    lower zero l = h
    lower (suc k) l = b.below k (omega arith)

    upper : (k : ℕ) → r + 1 ≤ k → k < length (x ∷ xs) → y ≤ get_or (x ∷ xs) k 0
    upper zero g l = absurd (omega arith)
    upper (suc k) g l = b.above k (omega arith) (omega arith)

first_hash : {b f : List ℕ} {m n : ℕ} → 0 < n → {p : Head} → HeadAt (words f) 0 p → (Q : ℕ) (xs : List Slot) → n ≡ length xs → Slots b f m Q xs
    → quad_number p.hash ≡ get_or (place_hashes (plain xs)) 0 0
first_hash some r Q [] c s = absurd (omega arith)
first_hash some r Q (x ∷ xs) c s = head-hash x.place (first_head s x (omega arith) r)

module _ {b f : List ℕ} {m n x : ℕ} where
  pub sought_none : n ≡ 0 → SoughtIn b f m n x 0
  sought_none e = record {
    most = omega arith;
    bound = λ Q xs c s o. record { most = omega arith; below = λ k h. absurd (omega arith); above = λ k h l. absurd (omega (arith, hashes-long (plain xs), plain-long xs)) };
  }

  module _ (some : 0 < n) {p : Head} (r : HeadAt (words f) 0 p) where
    pub sought_first : x ≤ quad_number p.hash → SoughtIn b f m n x 0
    unfolding Sorted
    sought_first h = record {
      most = omega arith;
      bound = λ Q xs c s o. record {
        most = omega arith;
        below = λ k g. absurd (omega arith);
        above = λ k g l. omega (arith, first_hash some r Q xs c s, o 0 k (omega arith) l);
      };
    }

    pub sought_later : {i : ℕ} → quad_number p.hash < x → Sought (recs place_size place_key (n - 1) (words (take (length b - m) (drop m b)))) (n - 1) x i → SoughtIn b f m n x (i + 1)
    sought_later {i} h q = record {
      most = omega (arith, q.most);
      bound = λ Q xs c s o. go Q xs c s o (rw (rest_lent b m) at q);
    }
      where
        go : (Q : ℕ) (xs : List Slot) → n ≡ length xs → Slots b f m Q xs → Sorted (place_hashes (plain xs)) → Sought (recs place_size place_key (n - 1) (words (drop m b))) (n - 1) x i
            → Bound (place_hashes (plain xs)) x (i + 1)
        go Q [] c s o q = absurd (omega arith)
        go Q (y ∷ xs) c s o q =
            bound-later y.place.hash (place_hashes (plain xs)) x i (omega (arith, first_hash some r Q (y ∷ xs) c s))
            (slot_sought (Q - 1) xs (omega (arith, s.few)) s.rest {n = n - 1} (omega arith) q (tail-sorted y.place.hash (place_hashes (plain xs)) o))

-- ---- where it stops

pub ascend_above : (lo : ℕ) (ps : List Place) (j : ℕ) (d : Place) → PlacesAscend lo ps → j < length ps → lo ≤ (get_or ps j d).hash
ascend_above lo [] j d a l = absurd (omega arith)
ascend_above lo (p ∷ ps) zero d a l = a.0
ascend_above lo (p ∷ ps) (suc j) d a l = omega (arith, a.0, ascend_above (suc p.hash) ps j d a.1 (omega arith))

-- no two have one hash
pub ascend_once : (lo : ℕ) (ps : List Place) (i j : ℕ) (d : Place) → PlacesAscend lo ps → i < length ps → j < length ps → (get_or ps i d).hash ≡ (get_or ps j d).hash → i ≡ j
ascend_once lo [] i j d a l g e = absurd (omega arith)
ascend_once lo (p ∷ ps) zero zero d a l g e = refl
ascend_once lo (p ∷ ps) zero (suc j) d a l g e = absurd (omega (arith, ascend_above (suc p.hash) ps j d a.1 (omega arith)))
ascend_once lo (p ∷ ps) (suc i) zero d a l g e = absurd (omega (arith, ascend_above (suc p.hash) ps i d a.1 (omega arith)))
ascend_once lo (p ∷ ps) (suc i) (suc j) d a l g e = ap suc (ascend_once (suc p.hash) ps i j d a.1 (omega arith) (omega arith) e)

module _ (ps : List Place) (h i : ℕ) (s : Sorted (place_hashes ps)) (b : Bound (place_hashes ps) h i) where
  missed : (d : Place) → (i < length ps → h < (get_or ps i d).hash) → (j : ℕ) → j < length ps → (get_or ps j d).hash ≡ h → ⊥
  unfolding Sorted
  missed d n j l e =
      let z = hashes-long ps in
      let y = hash_at_lem ps j d l in
      elim (test (ltb j i)) [
        | inl t ↦ let a = b.below j (ltb-true j i t) in omega arith
        | inr t ↦
            let g = ltb-false j i t in
            let k : i < length ps = omega arith in
            let c = s i j g (omega arith) in
            let u = hash_at_lem ps i d k in
            let v = n k in
            omega arith
      ]

module _ {b f : List ℕ} {m n : ℕ} where
  -- no place of k lives
  spot_none : (k : Key) → ((Q : ℕ) (xs : List Slot) → n ≡ length xs → Slots b f m Q xs → PlacesAscend 0 (plain xs) → SpotNone (plain xs) k) → SpotIn b f m n k rust.None
  spot_none k h = record { held = λ r d. absurd (none-some r d); none = λ d. h }

  pub spot_txid : (k : Key) → k.kind ≡ Txid → SpotIn b f m n k rust.None
  spot_txid k e = spot_none k (λ Q xs c s a. inl e)

  module _ (h : ℕ) {q : Quad} (e : q ≡ quad_of h) {i : ℕ} (t : SoughtIn b f m n (quad_number q) i) where
    number : quad_number q ≡ h
    number = ap quad_number e ∙ number_quad h

    bound : (Q : ℕ) (xs : List Slot) → n ≡ length xs → Slots b f m Q xs → PlacesAscend 0 (plain xs) → Bound (place_hashes (plain xs)) h i
    bound Q xs c s a = rw number at (t.bound Q xs c s (places-sorted 0 (plain xs) a))

    pub spot_over : n ≤ i → SpotIn b f m n (wtxid h) rust.None
    spot_over g = spot_none (wtxid h)
        (λ Q xs c s a. inr (λ j d l y. missed (plain xs) h i (places-sorted 0 (plain xs) a) (bound Q xs c s a) d (λ k. absurd (omega (arith, plain-long xs))) j l))

    module _ (inside : i < n) {p : Head} (r : HeadIn b f m i p) where
      here : (Q : ℕ) (xs : List Slot) → n ≡ length xs → Slots b f m Q xs → (d : Place) → p ≡ head_of (get_or (plain xs) i d)
      here Q xs c s d = r Q xs (at_rest d) (omega arith) s ∙ ap head_of (sym (plain_at xs i d))

      within : (xs : List Slot) → n ≡ length xs → i < length (plain xs)
      within xs c = omega (arith, plain-long xs)

      pub spot_missed : quad_number q < quad_number p.hash → SpotIn b f m n (wtxid h) rust.None
      spot_missed g = spot_none (wtxid h)
          (λ Q xs c s a. inr (λ j d l y. missed (plain xs) h i (places-sorted 0 (plain xs) a) (bound Q xs c s a) d
          (λ k. omega (arith, number, head-hash (get_or (plain xs) i d) (here Q xs c s d))) j l))

      module _ (g : quad_number p.hash ≤ quad_number q) where
        same : (Q : ℕ) (xs : List Slot) → n ≡ length xs → Slots b f m Q xs → PlacesAscend 0 (plain xs) → (d : Place) → (get_or (plain xs) i d).hash ≡ h
        same Q xs c s a d =
            let ps : List Place = plain xs in
            let k : i < length ps = within xs c in
            let x = head-hash (get_or ps i d) (here Q xs c s d) in
            let y = (bound Q xs c s a).above i (le_refl i) (omega (arith, hashes-long ps)) in
            let z = hash_at_lem ps i d k in
            omega (arith, number)

        pub spot_dead : p.stage ≡ 0 → SpotIn b f m n (wtxid h) rust.None
        spot_dead z = spot_none (wtxid h) (λ Q xs c s a. inr (λ j d l y w.
            let ps : List Place = plain xs in
            let u = ascend_once 0 ps j i d a l (within xs c) (w ∙ sym (same Q xs c s a d)) in
            let v = ltb-true 0 (get_or ps j d).stage y in
            let x = head-stage (get_or ps i d) (here Q xs c s d) in
            let o = ap (λ (j : ℕ). (get_or ps j d).stage) u in
            omega arith))

        pub spot_found : (p.stage ≡ 0 → ⊥) → SpotIn b f m n (wtxid h) (rust.Some (record { at = i; stage = p.stage; parents = p.parents }))
        spot_found z = record {
          held = λ v d Q xs c s a. subst (SpotHeld (plain xs) (wtxid h)) (same_Some _ v d) (record {
            kind = refl;
            inside = within xs c;
            hash = λ d. same Q xs c s a d;
            lives = λ d. omega (arith, z, head-stage (get_or (plain xs) i d) (here Q xs c s d));
            stage = λ d. head-stage (get_or (plain xs) i d) (here Q xs c s d);
            parents = λ d. head-parents (get_or (plain xs) i d) (here Q xs c s d);
          });
          none = λ d. absurd (none-some _ (sym d));
        }
