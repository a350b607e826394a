-- Numbers that come more than `most` times are among the names that are left of a list; counted once more, they tell whether there is any.
use Prim.Native.Nat.{ℕ, zero, suc, ◌+◌, ◌*◌, ◌≤◌, ◌<◌}
use mathlib.Core.Path.{◌≡◌, refl, sym, ap, ◌∙◌}
use mathlib.Core.Bool.{Bool, true, false}
use mathlib.Core.Logic.{inl, inr}
use mathlib.Core.List.{List, [], ◌∷◌}
use native.Mathlib.Nat.{mul-suc, mul-zero}
use native.Mathlib.Omega.{arith}
use lib.Dec.{leb, eqb}
use lib.ListN.{length, get_or, set, length-set}
use borrow.Author.Tests.{eqb-true, eq-eqb, ltb-true, ltb-false, leb-true, leb-false}
use Rattle.words.specs.Words.{Decides}
use Rattle.machine.specs.Table.{one}
use Rattle.machine.proofs.Tests.{test, never, and_left, and_right}
use Rattle.heavy.specs.Counters.{times, index_of, is_in, lowered, raised, names_with, counts_with, names_of, counted_with, counts_of, none_above, sum, Few}
use Rattle.heavy.proofs.Held.{held, held_raised, held_none, held_taken, held_lowered, sum-raised, sum-taken, sum-lowered, length-lowered}

-- ---- n numbers were met, y of them f y times

pub record Met (f : ℕ → ℕ) (n : ℕ) (ns ks : List ℕ) : Type 0 where
  pub same : length ns ≡ length ks
  pub lost : ℕ
  pub bound : (y : ℕ) → f y ≤ held y ns ks + lost
  pub room : suc (length ks) * lost + sum ks ≤ n

abbrev more : ℕ → (ℕ → ℕ) → ℕ → ℕ
more x f y = one (eqb x y) + f y

room_up : (k k' d s s' n : ℕ) → k' ≡ k → s' ≡ suc s → suc k * d + s ≤ n → suc k' * d + s' ≤ suc n
room_up k k' d s s' n e g h = rw (e, g) (omega arith)

room_down : (k d s s' n : ℕ) → s' + k ≡ s → suc k * d + s ≤ n → suc k * suc d + s' ≤ suc n
room_down k d s s' n g h = omega (arith, mul-suc (suc k) d)

module _ (x : ℕ) {f : ℕ → ℕ} {n : ℕ} {ns ks : List ℕ} (m : Met f n ns ks) where
  up : index_of x ns < length ns → Met (more x f) (suc n) ns (raised (index_of x ns) ks)
  up h = record {
    same = m.same ∙ sym (length-set ks (index_of x ns) (get_or ks (index_of x ns) 0 + 1));
    lost = m.lost;
    bound = λ y. omega (arith, held_raised x y ns ks m.same h, m.bound y);
    room = room_up (length ks) _ m.lost (sum ks) _ n (length-set ks (index_of x ns) (get_or ks (index_of x ns) 0 + 1)) (sum-raised (index_of x ns) ks (omega (arith, m.same))) m.room;
  }

  module _ (h : length ns ≤ index_of x ns) where
    taken : index_of 0 ks < length ks → Met (more x f) (suc n) (set ns (index_of 0 ks) x) (set ks (index_of 0 ks) 1)
    taken g = record {
      same = length-set ns (index_of 0 ks) x ∙ m.same ∙ sym (length-set ks (index_of 0 ks) 1);
      lost = m.lost;
      bound = λ y. omega (arith, held_taken x y ns ks m.same h g, m.bound y);
      room = room_up (length ks) _ m.lost (sum ks) _ n (length-set ks (index_of 0 ks) 1) (sum-taken ks g) m.room;
    }

    down : length ks ≤ index_of 0 ks → Met (more x f) (suc n) ns (lowered ks)
    down g = record {
      same = m.same ∙ sym (length-lowered ks);
      lost = suc m.lost;
      bound = λ y. elim (test (eqb x y)) [
        | inl t ↦ let e = eqb-true x y t in rw t (omega (arith, m.bound y, rw e at (held_none x ns ks h)))
        | inr t ↦ rw t (omega (arith, m.bound y, held_lowered y ns ks))
      ];
      room = rw (length-lowered ks) (room_down (length ks) m.lost (sum ks) (sum (lowered ks)) n (sum-lowered ks g) m.room);
    }

  met_with : Met (more x f) (suc n) (names_with x ns ks) (counts_with x ns ks)
  unfolding names_with counts_with
  met_with = elim (test (is_in x ns)) [
    | inl t ↦ rw t (up (ltb-true (index_of x ns) (length ns) t))
    | inr t ↦ let h = ltb-false (index_of x ns) (length ns) t in elim (test (is_in 0 ks)) [
      | inl u ↦ rw (t, u) (taken h (ltb-true (index_of 0 ks) (length ks) u))
      | inr u ↦ rw (t, u) (down h (ltb-false (index_of 0 ks) (length ks) u))
    ]
  ]

-- ---- all of a list

pub record MetAll (f : ℕ → ℕ) (n : ℕ) (ns : List ℕ) (k : ℕ) : Type 0 where
  pub counts : List ℕ
  pub many : length counts ≡ k
  pub met : Met f n ns counts

pub times_more : (x y : ℕ) (xs : List ℕ) → times y (x ∷ xs) ≡ one (eqb x y) + times y xs
unfolding times
times_more x y xs = elim (test (eqb x y)) [ inl t ↦ rw t (omega arith) | inr t ↦ rw t (omega arith) ]

-- the same numbers, counted otherwise
recounted : (f g : ℕ → ℕ) {n m : ℕ} {ns : List ℕ} {k : ℕ} → ((y : ℕ) → g y ≡ f y) → m ≡ n → MetAll f n ns k → MetAll g m ns k
recounted f g h e a = record {
  counts = a.counts;
  many = a.many;
  met = record { same = a.met.same; lost = a.met.lost; bound = λ y. omega (arith, h y, a.met.bound y); room = omega (arith, a.met.room) };
}

pub length_named : (xs ns ks : List ℕ) → length (names_of xs ns ks) ≡ length ns
unfolding names_of names_with
length_named [] ns ks = refl
length_named (x ∷ xs) ns ks = length_named xs (names_with x ns ks) (counts_with x ns ks) ∙ one
  where
    one : length (names_with x ns ks) ≡ length ns
    one = elim (test (is_in x ns)) [
      | inl t ↦ rw t
      | inr t ↦ elim (test (is_in 0 ks)) [ inl u ↦ rw (t, u) (length-set ns (index_of 0 ks) x) | inr u ↦ rw (t, u) ]
    ]

pub length_with : (x : ℕ) (ns ks : List ℕ) → length (counts_with x ns ks) ≡ length ks
unfolding counts_with
length_with x ns ks = elim (test (is_in x ns)) [
  | inl t ↦ rw t (length-set ks (index_of x ns) (get_or ks (index_of x ns) 0 + 1))
  | inr t ↦ elim (test (is_in 0 ks)) [ inl u ↦ rw (t, u) (length-set ks (index_of 0 ks) 1) | inr u ↦ rw (t, u) (length-lowered ks) ]
]

met_all : (xs : List ℕ) (f : ℕ → ℕ) (n : ℕ) (ns ks : List ℕ) → Met f n ns ks → MetAll (λ y. times y xs + f y) (n + length xs) (names_of xs ns ks) (length ks)
unfolding names_of times
met_all [] f n ns ks m = recounted f (λ y. times y [] + f y) (λ y. omega arith) (omega arith) (record { counts = ks; many = refl; met = m })
met_all (x ∷ xs) f n ns ks m =
    let a = met_all xs (more x f) (suc n) (names_with x ns ks) (counts_with x ns ks) (met_with x m) in
    recounted (λ y. times y xs + more x f y) (λ y. times y (x ∷ xs) + f y) (λ y. omega (arith, times_more x y xs)) (omega arith)
    (record { counts = a.counts; many = a.many ∙ length_with x ns ks; met = a.met })

-- a number without a name came at most `most` times
unnamed_few : {f : ℕ → ℕ} {n k : ℕ} {ns : List ℕ} (most : ℕ) → MetAll f n ns k → n ≤ suc k * most + k → (y : ℕ) → length ns ≤ index_of y ns → f y ≤ most
unnamed_few {f} {n} {k} {ns} most a h y g =
    let c = a.counts in
    let z : held y ns c ≡ 0 = held_none y ns c g in
    let b : f y ≤ a.met.lost = omega (arith, a.met.bound y, z) in
    let q : suc k * a.met.lost + sum c ≤ n = rw a.many at a.met.room in
    let r : suc k * a.met.lost ≤ suc k * most + k = omega arith in
    omega (arith, lost_few k a.met.lost most r)
  where
    lost_few : (k d most : ℕ) → suc k * d ≤ suc k * most + k → d ≤ most
    lost_few k d zero r = none_lost k d (omega (arith, mul-zero (suc k), r))
      where
        none_lost : (k d : ℕ) → suc k * d ≤ k → d ≤ 0
        none_lost k zero r = omega arith
        none_lost k (suc d) r = absurd (omega (arith, mul-suc (suc k) d))
    lost_few k zero (suc most) r = omega arith
    lost_few k (suc d) (suc most) r = omega (arith, lost_few k d most (omega (arith, mul-suc (suc k) d, mul-suc (suc k) most, r)))

-- ---- the second pass: each number with a name is counted

-- no counter has more than its name's count
abbrev Under : (ℕ → ℕ) → List ℕ → List ℕ → Type 0
Under f [] ks = Unit {0}
Under f (n ∷ ns) [] = Unit {0}
Under f (n ∷ ns) (c ∷ ks) = (c ≤ f n) × Under f ns ks

pub record Counted (f : ℕ → ℕ) (ns ks : List ℕ) : Type 0 where
  pub same : length ns ≡ length ks
  pub exact : (y : ℕ) → index_of y ns < length ns → held y ns ks ≡ f y
  pub under : Under f ns ks

under_mono : {f g : ℕ → ℕ} → ((y : ℕ) → f y ≤ g y) → (ns ks : List ℕ) → Under f ns ks → Under g ns ks
under_mono h [] ks u = tt
under_mono h (n ∷ ns) [] u = tt
under_mono h (n ∷ ns) (c ∷ ks) u = (omega (arith, h n, u.0), under_mono h ns ks u.1)

under_raised : (x : ℕ) (f : ℕ → ℕ) (ns ks : List ℕ) → index_of x ns < length ns → Under f ns ks → Under (more x f) ns (raised (index_of x ns) ks)
unfolding index_of
under_raised x f [] ks h u = tt
under_raised x f (n ∷ ns) [] h u = tt
under_raised x f (n ∷ ns) (c ∷ ks) h u = elim (test (eqb n x)) [
  | inl t ↦ let e = eqb-true n x t in rw t (rw (eq-eqb x n (sym e)) (omega (arith, u.0)), under_mono (λ y. omega arith) ns ks u.1)
  | inr t ↦ rw t (omega (arith, u.0), under_raised x f ns ks (omega (arith, rw t at h)) u.1)
]

module _ (x : ℕ) {f : ℕ → ℕ} {ns ks : List ℕ} (m : Counted f ns ks) where
  counted-with : Counted (more x f) ns (counted_with x ns ks)
  unfolding counted_with
  counted-with = elim (test (is_in x ns)) [
    | inl t ↦ let h = ltb-true (index_of x ns) (length ns) t in
        rw t (record {
          same = m.same ∙ sym (length-set ks (index_of x ns) (get_or ks (index_of x ns) 0 + 1));
          exact = λ y g. held_raised x y ns ks m.same h ∙ ap (λ (v : ℕ). one (eqb x y) + v) (m.exact y g);
          under = under_raised x f ns ks h m.under;
        })
    | inr t ↦ let h = ltb-false (index_of x ns) (length ns) t in
        rw t (record {
          same = m.same;
          exact = λ y g. m.exact y g ∙ other y g h;
          under = under_mono (λ y. omega arith) ns ks m.under;
        })
  ]
    where
      other : (y : ℕ) → index_of y ns < length ns → length ns ≤ index_of x ns → f y ≡ one (eqb x y) + f y
      other y g h = elim (test (eqb x y)) [
        | inl t ↦ let e = eqb-true x y t in absurd (omega (arith, rw (← e) at g))
        | inr t ↦ rw t (omega arith)
      ]

counted_same : {f g : ℕ → ℕ} {ns ks : List ℕ} → ((y : ℕ) → g y ≡ f y) → Counted f ns ks → Counted g ns ks
counted_same {f} {g} {ns} {ks} h m = record {
  same = m.same;
  exact = λ y d. m.exact y d ∙ sym (h y);
  under = under_mono (λ y. omega (arith, h y)) ns ks m.under;
}

counted_all : (xs : List ℕ) (f : ℕ → ℕ) (ns ks : List ℕ) → Counted f ns ks → Counted (λ y. times y xs + f y) ns (counts_of xs ns ks)
unfolding counts_of times
counted_all [] f ns ks m = counted_same (λ y. omega arith) m
counted_all (x ∷ xs) f ns ks m =
    counted_same (λ y. omega (arith, times_more x y xs)) (counted_all xs (more x f) ns (counted_with x ns ks) (counted-with x m))

-- ---- whether there is a count above `most`

held_few : (most y : ℕ) (ns ks : List ℕ) → none_above most ks ≡ true → held y ns ks ≤ most
unfolding held none_above
held_few most y [] ks e = omega arith
held_few most y (n ∷ ns) [] e = omega arith
held_few most y (n ∷ ns) (c ∷ ks) e = elim (test (eqb n y)) [
  | inl t ↦ rw t (leb-true c most (and_left (leb c most) (none_above most ks) e))
  | inr t ↦ rw t (held_few most y ns ks (and_right (leb c most) (none_above most ks) e))
]

record Often (most : ℕ) (f : ℕ → ℕ) : Type 0 where
  pub number : ℕ
  pub often : most < f number

one_above : (most : ℕ) (f : ℕ → ℕ) (ns ks : List ℕ) → length ns ≡ length ks → Under f ns ks → none_above most ks ≡ false → Often most f
unfolding none_above
one_above most f [] [] e u n = never (sym n)
one_above most f [] (c ∷ ks) e u n = absurd (omega arith)
one_above most f (n ∷ ns) [] e u g = absurd (omega arith)
one_above most f (n ∷ ns) (c ∷ ks) e u g = elim (test (leb c most)) [
  | inl t ↦ one_above most f ns ks (omega arith) u.1 (rw t at g)
  | inr t ↦ let h = leb-false c most t in record { number = n; often = omega (arith, u.0) }
]

-- ---- zeros to begin with

pub zeros-met : (ns ks : List ℕ) → length ns ≡ length ks → sum ks ≡ 0 → Met (λ y. 0) 0 ns ks
zeros-met ns ks e z = record { same = e; lost = 0; bound = λ y. omega arith; room = omega (arith, mul-zero (suc (length ks))) }

held_zero : (y : ℕ) (ns ks : List ℕ) → sum ks ≡ 0 → held y ns ks ≡ 0
unfolding held sum
held_zero y [] ks z = refl
held_zero y (n ∷ ns) [] z = refl
held_zero y (n ∷ ns) (c ∷ ks) z = elim (test (eqb n y)) [ inl t ↦ rw t (omega arith) | inr t ↦ rw t (held_zero y ns ks (omega arith)) ]

under_zero : (ns ks : List ℕ) → sum ks ≡ 0 → Under (λ y. 0) ns ks
unfolding sum
under_zero [] ks z = tt
under_zero (n ∷ ns) [] z = tt
under_zero (n ∷ ns) (c ∷ ks) z = (omega arith, under_zero ns ks (omega arith))

-- ---- the law of the two passes: k counters at 0, at most (k + 1) * most + k numbers

module _ (most : ℕ) (xs ns ks zs : List ℕ) (e : length ns ≡ length ks) (z : sum ks ≡ 0) (d : length zs ≡ length ks) (w : sum zs ≡ 0)
    (h : length xs ≤ suc (length ks) * most + length ks) where
  abbrev names : List ℕ
  names = names_of xs ns ks

  all : MetAll (λ y. times y xs + 0) (0 + length xs) names (length ks)
  all = met_all xs (λ y. 0) 0 ns ks (zeros-met ns ks e z)

  counted : Counted (λ y. times y xs + 0) names (counts_of xs names zs)
  counted = counted_all xs (λ y. 0) names zs (record {
    same = all.met.same ∙ all.many ∙ sym d;
    exact = λ y g. held_zero y names zs w;
    under = under_zero names zs w;
  })

  pub heavy-decides : Decides (none_above most (counts_of xs names zs)) (Few most xs)
  heavy-decides = by (none_above most (counts_of xs names zs)) refl
    where
      by : (t : Bool) → none_above most (counts_of xs names zs) ≡ t → Decides t (Few most xs)
      by true t = record {
        few = λ y. elim (test (is_in y names)) [
          | inl u ↦ omega (arith, counted.exact y (ltb-true (index_of y names) (length names) u), held_few most y names (counts_of xs names zs) t)
          | inr u ↦ omega (arith, unnamed_few most all (omega (arith, h)) y (ltb-false (index_of y names) (length names) u))
        ];
      }
      by false t = λ g. let o = one_above most (λ y. times y xs + 0) names (counts_of xs names zs) counted.same counted.under t in
          omega (arith, o.often, g.few o.number)
