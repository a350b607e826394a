-- The bits of parents, what is picked by these, and hashes read from a place.
use Prim.Native.Nat.{ℕ, zero, suc, min, ◌+◌, ◌-◌, ◌*◌, ◌/◌, ◌%◌, ◌^◌, ◌≤◌, ◌<◌}
use mathlib.Core.Path.{◌≡◌, refl, sym, ap, ◌∙◌}
use mathlib.Core.Logic.{inl, inr}
use mathlib.Core.Bool.{Bool, true, false}
use mathlib.Core.List.{List, [], ◌∷◌, ◌++◌}
use native.Mathlib.Nat.{add-zero, pow-suc}
use native.Mathlib.Omega.{arith}
use native.Mathlib.Numerals.{add-one}
use lib.Dec.{eqb, ltb}
use mir.Val.{bool_byte}
use borrow.Author.Tests.{ltb-true, ltb-false}
use lib.ListN.{length, take, drop, get_or, drop_of_length-le}
use lib.Seq.{drop-cons, take_all, take_at, drop_at}
use Rattle.std.specs.Prelude.{if◌then◌else◌}
use Rattle.std.proofs.Math.Pow.{shl_exact}
use Rattle.ident.specs.Number.{Key, txid}
use Rattle.words.specs.Words.{words}
use Rattle.regions.specs.Rows.{quad_number}
use Rattle.places.specs.Places.{list_most, place_size, parents_at}
use Rattle.machine.specs.Limits.{Limits}
use Rattle.machine.specs.State.{Table}
use Rattle.machine.specs.Table.{one}
use Rattle.machine.specs.Fail.{parents_from}
use Rattle.regions.proofs.Order.{number_quad}
use Rattle.machine.proofs.Tests.{test}
use Rattle.announcing.specs.Answers.{one_parent}
use Rattle.apart.specs.Apart.{Slot, SlotOf}
use Rattle.apart.specs.Noting.{parent_in, hashes_at, picked, picked_in, kept_bits, half_most, Halved}
use Rattle.apart.proofs.SlotWords.{slot-parent}
use Rattle.apart.proofs.Slotted.{slot-words}

-- ---- what the machine makes of them

module _ (m : Limits) (n now : ℕ) where
  bit_odd : (b : Bool) (x : ℕ) → (one b + 2 * x) % 2 ≡ one b
  bit_odd true x = omega arith
  bit_odd false x = omega arith

  bit-half : (b : Bool) (x : ℕ) → (one b + 2 * x) / 2 ≡ x
  bit-half true x = omega arith
  bit-half false x = omega arith

  pick_one : (b : Bool) (k : Key) (ks : List Key) → (if eqb (one b) 1 then k ∷ ks else ks) ≡ (if b then k ∷ ks else ks)
  pick_one true k ks = refl
  pick_one false k ks = refl

  -- the bits of those kept pick their keys
  pub kept_picked : (i : ℕ) (hs : List ℕ) (t : Table) → picked hs (kept_bits m n now i hs t) ≡ (parents_from m n now i hs t).keys
  unfolding picked kept_bits parents_from
  kept_picked i [] t = refl
  kept_picked i (h ∷ hs) t =
      let a = (one_parent m n now h i t).reply in
      let t' = (one_parent m n now h i t).table in
      let x = kept_bits m n now (suc i) hs t' in
      rw (bit_odd a x, bit-half a x, kept_picked (suc i) hs t') (pick_one a (txid h) (parents_from m n now (suc i) hs t').keys)

  -- one part after the other
  pub parts-keys : (i : ℕ) (xs ys : List ℕ) (t : Table)
      → (parents_from m n now i (xs ++ ys) t).keys ≡ (parents_from m n now i xs t).keys ++ (parents_from m n now (i + length xs) ys (parents_from m n now i xs t).table).keys
  unfolding parents_from
  parts-keys i [] ys t = rw add-zero
  parts-keys i (h ∷ xs) ys t =
      let a = (one_parent m n now h i t).reply in
      let t' = (one_parent m n now h i t).table in
      let e : i + suc (length xs) ≡ suc i + length xs = omega arith in
      rw (parts-keys (suc i) xs ys t', e) (go a (txid h) _ _)
    where
      go : (b : Bool) (k : Key) (x y : List Key) → (if b then k ∷ (x ++ y) else x ++ y) ≡ (if b then k ∷ x else x) ++ y
      go true k x y = refl
      go false k x y = refl

  pub parts-table : (i : ℕ) (xs ys : List ℕ) (t : Table)
      → (parents_from m n now i (xs ++ ys) t).table ≡ (parents_from m n now (i + length xs) ys (parents_from m n now i xs t).table).table
  unfolding parents_from
  parts-table i [] ys t = rw add-zero
  parts-table i (h ∷ xs) ys t =
      let e : i + suc (length xs) ≡ suc i + length xs = omega arith in
      rw (parts-table (suc i) xs ys (one_parent m n now h i t).table, e)

-- ---- hashes read from a place

pub hashes_next : (w : List ℕ) (j n : ℕ) → 0 < n → hashes_at w j n ≡ parent_in w j ∷ hashes_at w (j + 1) (n - 1)
unfolding hashes_at
hashes_next w j zero h = absurd (omega arith)
hashes_next w j (suc n) h = let e : suc n - 1 ≡ n = omega arith in rw (add-one j, e)

pub hashes_none : (w : List ℕ) (j n : ℕ) → n ≡ 0 → hashes_at w j n ≡ []
unfolding hashes_at
hashes_none w j n e = rw e

pub hashes-long : (w : List ℕ) (j n : ℕ) → length (hashes_at w j n) ≡ n
unfolding hashes_at
hashes-long w j zero = refl
hashes-long w j (suc n) = ap suc (hashes-long w (suc j) n)

hashes-parts : (w : List ℕ) (j a b : ℕ) → hashes_at w j (a + b) ≡ hashes_at w j a ++ hashes_at w (j + a) b
unfolding hashes_at
hashes-parts w j zero b = let e : 0 + b ≡ b = omega arith in rw (e, add-zero)
hashes-parts w j (suc a) b =
    let e : j + suc a ≡ suc j + a = omega arith in
    let f : suc a + b ≡ suc (a + b) = omega arith in
    rw (f, e) (ap (λ (l : List ℕ). parent_in w j ∷ l) (hashes-parts w (suc j) a b))

-- those of a place's words are its parents
pub slot-hashes : (z : List ℕ) (x : Slot) → SlotOf z x → length x.place.parents ≤ list_most → (j n : ℕ) → j + n ≤ length x.place.parents
    → hashes_at (words z) j n ≡ take n (drop j x.place.parents)
unfolding hashes_at
slot-hashes z x h l j zero g = refl
slot-hashes z x h l j (suc n) g =
    let hs : List ℕ = x.place.parents in
    let e : place_size * 0 + (parents_at + 4 * j) ≡ parents_at + 4 * j = omega arith in
    let y : parent_in (words z) j ≡ get_or hs j 0 =
    rw (e, slot-words z x h) (ap quad_number (slot-parent x j 0 (omega arith) (omega arith)) ∙ number_quad (get_or hs j 0)) in
    rw (y, slot-hashes z x h l (suc j) n (omega arith), drop-cons hs j 0 (omega arith))

pub slot_all : (z : List ℕ) (x : Slot) → SlotOf z x → length x.place.parents ≤ list_most → hashes_at (words z) 0 (length x.place.parents) ≡ x.place.parents
slot_all z x h l = slot-hashes z x h l 0 (length x.place.parents) (omega arith) ∙ take_all (length x.place.parents) x.place.parents (omega arith)

-- ---- halves

pub halved_less : {n : ℕ} → n < half_most → Halved n n
halved_less {n} h = record {
  most = omega arith;
  within = omega arith;
  rest = λ l. omega arith;
  front = λ l e. take_all n l (omega arith) ∙ sym (take_all half_most l (omega arith));
  behind = λ l e. drop_of_length-le l {i = n} (omega arith) ∙ sym (drop_of_length-le l {i = half_most} (omega arith));
}

pub halved_more : {n : ℕ} → half_most ≤ n → Halved n half_most
halved_more {n} h = record { most = omega arith; within = omega arith; rest = λ l. omega arith; front = λ l e. refl; behind = λ l e. refl }

pub halved : (n : ℕ) → Halved n (min n half_most)
halved n = elim (test (ltb n half_most)) [
  | inl t ↦ let l = ltb-true n half_most t in let e : min n half_most ≡ n = omega arith in rw e (halved_less l)
  | inr t ↦ let l = ltb-false n half_most t in let e : min n half_most ≡ half_most = omega arith in rw e (halved_more l)
]

-- the hashes of a place in two halves
module _ (w : List ℕ) {c e : ℕ} (h : Halved c e) where
  pub whole : hashes_at w 0 c ≡ hashes_at w 0 e ++ hashes_at w e (c - e)
  whole = let q : e + (c - e) ≡ c = omega (arith, h.within) in let z : 0 + e ≡ e = omega arith in ap (hashes_at w 0) (sym q) ∙ hashes-parts w 0 e (c - e) ∙ rw z

  pub in-front : take half_most (hashes_at w 0 c) ≡ hashes_at w 0 e
  in-front = sym (h.front (hashes_at w 0 c) (hashes-long w 0 c)) ∙ ap (take e) whole ∙ take_at (hashes_at w 0 e) (hashes_at w e (c - e)) e (hashes-long w 0 e)

  pub behind : drop half_most (hashes_at w 0 c) ≡ hashes_at w e (c - e)
  behind = sym (h.behind (hashes_at w 0 c) (hashes-long w 0 c)) ∙ ap (drop e) whole ∙ drop_at (hashes_at w 0 e) (hashes_at w e (c - e)) e (hashes-long w 0 e)

  pub both_halves : (low high : ℕ) → picked_in (hashes_at w 0 c) low high ≡ picked (hashes_at w 0 (e - 0)) low ++ picked (hashes_at w e (c - e)) high
  both_halves low high = let q : e - 0 ≡ e = omega arith in rw (in-front, behind, q)

-- ---- weights

pub one_most : (w : ℕ) (b : Bool) → w * one b ≤ w
one_most w true = omega arith
one_most w false = omega arith

-- the k-th bit, if b
pub shifted : (k : ℕ) (b : Bool) {x : ℕ} → k < half_most → x ≡ bool_byte b → x * 2 ^ k % 2 ^ 64 ≡ 2 ^ k * one b
shifted k true l e = rw e (shl_exact 1 k 64 (omega arith) (omega arith) ∙ omega arith)
shifted k false l e = rw e (omega arith)

pub weight_next : (from j : ℕ) → from ≤ j → 2 ^ (j - from) * 2 ≡ 2 ^ (j + 1 - from)
weight_next from j h = let q : j + 1 - from ≡ suc (j - from) = omega arith in rw (q, pow-suc 2 (j - from))
