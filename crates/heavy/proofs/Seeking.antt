-- Lists of numbers gone through from the first on.
use Prim.Native.Nat.{ℕ, zero, suc, ◌+◌, ◌-◌, ◌≤◌, ◌<◌}
use mathlib.Core.Path.{◌≡◌, refl, ap}
use mathlib.Core.Bool.{Bool, true, false, cond, ◌&&◌}
use mathlib.Core.Logic.{inl, inr}
use mathlib.Core.List.{List, [], ◌∷◌, map}
use native.Mathlib.Numerals.{add-one}
use native.Mathlib.Omega.{arith}
use lib.Dec.{eqb, ltb, leb}
use lib.ListN.{length, get_or, set, take, replicate}
use lib.Seq.{take_all}
use borrow.Author.Tests.{lt-ltb, le-ltb, ltb-true, ltb-false}
use Rattle.std.specs.Prelude.{if◌then◌else◌, Option, Some, None, MatchOption}
use Rattle.std.specs.List.{position, position_or_len, list_all}
use Rattle.std.proofs.lemmas.List.Recursion.{is_position_or_len}
use Rattle.std.proofs.lemmas.Iterator.{YieldsList}
use Rattle.machine.proofs.Tests.{test}
use Rattle.heavy.specs.declared.Counter.{Counter}
use Rattle.heavy.specs.Counters.{names_in, counts_in, index_of, lowered, names_with, counts_with, counted_with, none_above, sum, Notes, NoneAbove}

-- ---- names and counts of counters

pub length-names : (cs : List Counter) → length (names_in cs) ≡ length cs
unfolding names_in
length-names [] = refl
length-names (c ∷ cs) = ap suc (length-names cs)

pub length-counts : (cs : List Counter) → length (counts_in cs) ≡ length cs
unfolding counts_in
length-counts [] = refl
length-counts (c ∷ cs) = ap suc (length-counts cs)

pub names_set : (cs : List Counter) (i n k : ℕ) → names_in (set cs i (record { name = n; count = k })) ≡ set (names_in cs) i n
unfolding names_in
names_set [] i n k = refl
names_set (c ∷ cs) zero n k = refl
names_set (c ∷ cs) (suc i) n k = ap (λ (ns : List ℕ). c.name ∷ ns) (names_set cs i n k)

pub counts_set : (cs : List Counter) (i n k : ℕ) → counts_in (set cs i (record { name = n; count = k })) ≡ set (counts_in cs) i k
unfolding counts_in
counts_set [] i n k = refl
counts_set (c ∷ cs) zero n k = refl
counts_set (c ∷ cs) (suc i) n k = ap (λ (ks : List ℕ). c.count ∷ ks) (counts_set cs i n k)

-- a counter keeps its name
pub names_kept : (cs : List Counter) (i k : ℕ) → names_in (set cs i (record { name = (get_or cs i (record { name = 0; count = 0 })).name; count = k })) ≡ names_in cs
unfolding names_in
names_kept [] i k = refl
names_kept (c ∷ cs) zero k = refl
names_kept (c ∷ cs) (suc i) k = ap (λ (ns : List ℕ). c.name ∷ ns) (names_kept cs i k)

pub count_at : (cs : List Counter) (i : ℕ) → (get_or cs i (record { name = 0; count = 0 })).count ≡ get_or (counts_in cs) i 0
unfolding counts_in
count_at [] i = refl
count_at (c ∷ cs) zero = refl
count_at (c ∷ cs) (suc i) = count_at cs i

-- ---- where a name stands, or a count of 0

step : (n : ℕ) (b : Bool) → (if b then 0 else suc n) ≡ cond b 0 (1 + n)
step n true = refl
step n false = omega arith

found : (p n : ℕ) → MatchOption (cond (ltb p n) (Some p) None) (n ≤ p) (λ i. (i ≡ p) × (i < n))
found p n = elim (test (ltb p n)) [
  | inl t ↦ rw t (refl, ltb-true p n t)
  | inr t ↦ rw t (ltb-false p n t)
]

name_first : (x : ℕ) (cs : List Counter) → index_of x (names_in cs) ≡ position_or_len (λ c. eqb c.name x) cs
unfolding index_of names_in
name_first x cs = is_position_or_len (λ (ds : List Counter). index_of x (names_in ds)) (λ c. eqb c.name x) refl (λ c ds. step (index_of x (names_in ds)) (eqb c.name x)) cs

count_first : (x : ℕ) (cs : List Counter) → index_of x (counts_in cs) ≡ position_or_len (λ c. eqb c.count x) cs
unfolding index_of counts_in
count_first x cs = is_position_or_len (λ (ds : List Counter). index_of x (counts_in ds)) (λ c. eqb c.count x) refl (λ c ds. step (index_of x (counts_in ds)) (eqb c.count x)) cs

pub name_sought : (x : ℕ) (cs : List Counter) {r : Option ℕ} → r ≡ position (λ c. eqb c.name x) cs
    → MatchOption r (length (names_in cs) ≤ index_of x (names_in cs)) (λ i. (i ≡ index_of x (names_in cs)) × (i < length cs))
name_sought x cs e = rw (e, name_first x cs, length-names cs) (found (position_or_len (λ c. eqb c.name x) cs) (length cs))

pub count_sought : (x : ℕ) (cs : List Counter) {r : Option ℕ} → r ≡ position (λ c. eqb c.count x) cs
    → MatchOption r (length (counts_in cs) ≤ index_of x (counts_in cs)) (λ i. (i ≡ index_of x (counts_in cs)) × (i < length cs))
count_sought x cs e = rw (e, count_first x cs, length-counts cs) (found (position_or_len (λ c. eqb c.count x) cs) (length cs))

pub all-below : (most : ℕ) (ks : List ℕ) → list_all (λ k. leb k most) ks ≡ none_above most ks
unfolding none_above
all-below most [] = refl
all-below most (k ∷ ks) = ap (λ b. leb k most && b) (all-below most ks)

counts-map : (cs : List Counter) → map (λ c. c.count) cs ≡ counts_in cs
unfolding counts_in
counts-map [] = refl
counts-map (c ∷ cs) = ap (λ (ks : List ℕ). c.count ∷ ks) (counts-map cs)

-- of an iterator that yields the counts of counters
pub none_above_counts : {S : Type 0} {steps : S → Option ℕ → S → Type 0} {s : S} {most : ℕ} {r : Bool} (cs : List Counter) → NoneAbove steps s most r
    → YieldsList steps (λ k. k) s (map (λ c. c.count) cs) → r ≡ none_above most (counts_in cs)
none_above_counts cs n y = n.is (counts_in cs) (rw (counts-map cs) at y.runs)

-- ---- the first i counts at 0

pub zeros_more : (cs : List Counter) (i n : ℕ) → i < length cs → sum (take i (counts_in cs)) ≡ 0 → sum (take (i + 1) (counts_in (set cs i (record { name = n; count = 0 })))) ≡ 0
unfolding sum counts_in
zeros_more cs i n h e = rw (add-one i) (go cs i h e)
  where
    go : (ds : List Counter) (j : ℕ) → j < length ds → sum (take j (counts_in ds)) ≡ 0 → sum (take (suc j) (counts_in (set ds j (record { name = n; count = 0 })))) ≡ 0
    go [] j h e = absurd (omega arith)
    go (d ∷ ds) zero h e = refl
    go (d ∷ ds) (suc j) h e = omega (arith, go ds j (omega arith) (omega (arith, e)), e)

pub zeros_all : (cs : List Counter) (i : ℕ) → length cs ≤ i → sum (take i (counts_in cs)) ≡ 0 → sum (counts_in cs) ≡ 0
zeros_all cs i h e = rw (take_all i (counts_in cs) (omega (arith, length-counts cs))) at e

pub length-nought : (k : ℕ) → length (counts_in (replicate k (record { name = 0; count = 0 }))) ≡ k
unfolding counts_in
length-nought zero = refl
length-nought (suc k) = ap suc (length-nought k)

pub sum-nought : (k : ℕ) → sum (counts_in (replicate k (record { name = 0; count = 0 }))) ≡ 0
unfolding counts_in sum
sum-nought zero = refl
sum-nought (suc k) = omega (arith, sum-nought k)

-- ---- the first i counts lowered

unfoldable pub partly : ℕ → List ℕ → List ℕ
partly zero s = s
partly (suc i) [] = []
partly (suc i) (c ∷ s) = (c - 1) ∷ partly i s

pub partly_none : (s : List ℕ) → s ≡ partly 0 s
unfolding partly
partly_none s = refl

pub partly_all : (i : ℕ) (s : List ℕ) → length s ≤ i → partly i s ≡ lowered s
unfolding partly lowered
partly_all zero [] h = refl
partly_all zero (c ∷ s) h = absurd (omega arith)
partly_all (suc i) [] h = refl
partly_all (suc i) (c ∷ s) h = ap (λ (t : List ℕ). (c - 1) ∷ t) (partly_all i s (omega arith))

one_lowered : (i : ℕ) (s : List ℕ) → i < length s → set (partly i s) i (get_or (partly i s) i 0 - 1) ≡ partly (suc i) s
unfolding partly
one_lowered zero [] h = absurd (omega arith)
one_lowered zero (c ∷ s) h = refl
one_lowered (suc i) [] h = absurd (omega arith)
one_lowered (suc i) (c ∷ s) h = ap (λ (t : List ℕ). (c - 1) ∷ t) (one_lowered i s (omega arith))

pub partly_more : (i : ℕ) (s t : List ℕ) {v : ℕ} → i < length s → t ≡ partly i s → v ≡ get_or t i 0 - 1 → set t i v ≡ partly (i + 1) s
partly_more i s t h e g = rw (g, e, add-one i) (one_lowered i s h)

-- ---- a number counted

pub count_below : (i : ℕ) (ks : List ℕ) → get_or ks i 0 ≤ sum ks
unfolding sum
count_below i [] = omega arith
count_below zero (c ∷ ks) = omega arith
count_below (suc i) (c ∷ ks) = omega (arith, count_below i ks)

module _ (x : ℕ) (ns ks : List ℕ) {i : ℕ} (e : i ≡ index_of x ns) where
  pub not_counted : length ns ≤ i → ks ≡ counted_with x ns ks
  unfolding counted_with
  not_counted h = rw (le-ltb (index_of x ns) (length ns) (omega arith))

  pub counted_up : i < length ns → set ks i (get_or ks i 0 + 1) ≡ counted_with x ns ks
  unfolding counted_with
  counted_up h = rw (e, lt-ltb (index_of x ns) (length ns) (omega arith))

-- ---- a number met

module _ (x : ℕ) (ns ks : List ℕ) {i : ℕ} (e : i ≡ index_of x ns) where
  pub notes_up : i < length ns → Notes ns ks ns (set ks i (get_or ks i 0 + 1)) x
  unfolding names_with counts_with
  notes_up h = let t = lt-ltb (index_of x ns) (length ns) (omega arith) in record { names = rw t; counts = rw (e, t) }

  module _ (h : length ns ≤ i) {j : ℕ} (d : j ≡ index_of 0 ks) where
    pub notes-taken : j < length ks → Notes ns ks (set ns j x) (set ks j 1) x
    unfolding names_with counts_with
    notes-taken g =
        let t = le-ltb (index_of x ns) (length ns) (omega arith) in
        let u = lt-ltb (index_of 0 ks) (length ks) (omega arith) in
        record { names = rw (t, u, d); counts = rw (t, u, d) }

    pub notes_down : {ks' : List ℕ} → length ks ≤ j → ks' ≡ lowered ks → Notes ns ks ns ks' x
    unfolding names_with counts_with
    notes_down g w =
        let t = le-ltb (index_of x ns) (length ns) (omega arith) in
        let u = le-ltb (index_of 0 ks) (length ks) (omega arith) in
        record { names = rw (t, u); counts = rw (t, u) w }
