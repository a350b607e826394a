-- One connection's part of an arranged list, found by two searches.
use Prim.Native.Nat.{ℕ, zero, suc, max, ◌+◌, ◌-◌, ◌<◌, ◌≤◌}
use mathlib.Core.Path.{◌≡◌, refl, sym, ap, ◌∙◌}
use mathlib.Core.Logic.{inl, inr}
use mathlib.Core.Bool.{Bool, true, false}
use mathlib.Core.List.{List, [], ◌∷◌, map}
use native.Mathlib.Omega.{arith}
use borrow.Author.Tests.{ltb-true, ltb-false, leb-true, leb-false, eq-eqb, ne_eqb, lt-ltb, le-ltb}
use lib.Dec.{ltb, leb}
use lib.ListN.{length, get_or, take, drop}
use Rattle.std.specs.List.{drop-map, take-map}
use Rattle.std.proofs.lemmas.List.{length-map}
use Rattle.std.specs.List.Sorted.{IsNonDecreasingBy, IsPartitionPoint}
use Rattle.regions.specs.Order.{Sorted, Bound, Sought}
use Rattle.machine.specs.State as machine
use Rattle.machine.specs.Claim.{part_of}
use Rattle.machine.proofs.Tests.{test}
use Rattle.claiming.specs.declared.Entry.{Entry}
use Rattle.claiming.specs.Claiming.{entry_of, no_entry}
use Rattle.sending.specs.Parts.{connections_in, PartIs, Parted}

-- ---- the searches

-- the test of the upper bound
pub at_most : (c n : ℕ) → leb c n ≡ ltb c (n + 1)
at_most c n = elim (test (leb c n)) [
  | inl t ↦ rw t (sym (lt-ltb c (n + 1) (omega (arith, leb-true c n t))))
  | inr t ↦ rw t (sym (le-ltb c (n + 1) (omega (arith, leb-false c n t))))
]

connection_at : (l : List Entry) (i : ℕ) (d : Entry) → i < length l → get_or (connections_in (map entry_of l)) i 0 ≡ (get_or l i d).candidate.connection
connection_at [] i d h = absurd (omega arith)
connection_at (e ∷ l) zero d h = refl
connection_at (e ∷ l) (suc i) d h = connection_at l i d (omega arith)

same_length : (l : List Entry) → length (connections_in (map entry_of l)) ≡ length l
same_length l = length-map (map entry_of l) (λ (a : machine.Entry). a.candidate.connection) ∙ length-map l entry_of

by-connection : (l : List Entry) → Sorted (connections_in (map entry_of l)) → IsNonDecreasingBy (λ (e : Entry). e.candidate.connection) l
unfolding Sorted
by-connection l s i j d h g =
    let n = same_length l in
    omega (arith, s i j h (omega arith), connection_at l i d (omega arith), connection_at l j d g)

-- where a test against x changes in an arranged list
pub sought : (l : List Entry) (x a : ℕ) (p : Entry → Bool) → ((e : Entry) → p e ≡ ltb e.candidate.connection x) → a ≤ length l
    → (IsNonDecreasingBy (λ (e : Entry). e.candidate.connection) l → IsPartitionPoint (λ y. p y ≡ true) (λ y. p y ≡ false) l a) → Sought (connections_in (map entry_of l)) (length (map entry_of l)) x a
sought l x a p t m f = record {
  most = omega (arith, m, length-map l entry_of);
  bound = λ s.
      let g = f (by-connection l s) in
      let n = same_length l in
      let long = length-map l entry_of in
      record {
        most = omega arith;
        below = λ k h.
            omega (arith, connection_at l k no_entry (omega arith), ltb-true (get_or l k no_entry).candidate.connection x (sym (t (get_or l k no_entry)) ∙ g.0 k no_entry (omega arith) h));
        above = λ k h o.
            omega (arith, connection_at l k no_entry (omega arith), ltb-false (get_or l k no_entry).candidate.connection x (sym (t (get_or l k no_entry)) ∙ g.1 k no_entry h (omega arith)));
      };
}

-- ---- the part

-- c entries of l from the a-th on are the connection n's, and no others are
record Only (n : ℕ) (l : List machine.Entry) (a c : ℕ) : Type 0 where
  pub most : a + c ≤ length l
  pub before : (k : ℕ) → k < a → get_or (connections_in l) k 0 ≡ n → ⊥
  pub within : (k : ℕ) → a ≤ k → k < a + c → get_or (connections_in l) k 0 ≡ n
  pub after : (k : ℕ) → a + c ≤ k → k < length l → get_or (connections_in l) k 0 ≡ n → ⊥

only_part : (n : ℕ) (l : List machine.Entry) (a c : ℕ) → Only n l a c → take c (drop a l) ≡ part_of n l
unfolding part_of
only_part n [] zero zero v = refl
only_part n [] (suc a) c v = absurd (omega (arith, v.most))
only_part n [] zero (suc c) v = absurd (omega (arith, v.most))
only_part n (x ∷ l) (suc a) c v =
    rw (ne_eqb x.candidate.connection n (v.before 0 (omega arith)))
    (only_part n l a c (record {
      most = omega (arith, v.most);
      before = λ k h. v.before (suc k) (omega arith);
      within = λ k h h'. v.within (suc k) (omega arith) (omega arith);
      after = λ k h h'. v.after (suc k) (omega arith) (omega arith);
    }))
only_part n (x ∷ l) zero (suc c) v =
    rw (eq-eqb x.candidate.connection n (v.within 0 (omega arith) (omega arith)))
    (ap (λ (r : List machine.Entry). x ∷ r)
    (only_part n l zero c (record {
      most = omega (arith, v.most);
      before = λ k h. absurd (omega arith);
      within = λ k h h'. v.within (suc k) (omega arith) (omega arith);
      after = λ k h h'. v.after (suc k) (omega arith) (omega arith);
    })))
only_part n (x ∷ l) zero zero v =
    rw (ne_eqb x.candidate.connection n (v.after 0 (omega arith) (omega arith)))
    (only_part n l zero zero (record {
      most = omega arith;
      before = λ k h. absurd (omega arith);
      within = λ k h h'. absurd (omega arith);
      after = λ k h h'. v.after (suc k) (omega arith) (omega arith);
    }))

-- what two searches find
module _ (n : ℕ) (l : List machine.Entry) {a b : ℕ} (x : Sought (connections_in l) (length l) n a) (y : Sought (connections_in l) (length l) (n + 1) b) where
  found : a ≤ b → Bound (connections_in l) n a → Bound (connections_in l) (n + 1) b → Only n l a (b - a)
  found le p q =
      let long = length-map l (λ (a : machine.Entry). a.candidate.connection) in
      record {
        most = omega (arith, y.most);
        before = λ k h f. omega (arith, p.below k h);
        within = λ k h h'. omega (arith, p.above k h (omega (arith, q.most)), q.below k (omega arith));
        after = λ k h h' f. omega (arith, q.above k (omega arith) (omega arith));
      }

  in_order : a ≤ b → PartIs n l a (b - a)
  in_order le = record { inside = omega (arith, y.most); arranged = λ s. only_part n l a (b - a) (found le (x.bound s) (y.bound s)) }

  -- of an arranged list the second search does not end before the first
  crossed : b < a → Bound (connections_in l) n a → Bound (connections_in l) (n + 1) b → ⊥
  crossed h p q = omega (arith, length-map l (λ (a : machine.Entry). a.candidate.connection), p.most, p.below b h, q.above b (omega arith) (omega (arith, h, p.most)))

  out_of_order : b < a → PartIs n l a 0
  out_of_order h = record { inside = omega (arith, x.most); arranged = λ s. absurd (crossed h (x.bound s) (y.bound s)) }

  pub between : PartIs n l a (b - a)
  between = elim (test (ltb b a)) [
    | inl t ↦ let e : b - a ≡ 0 = omega (arith, ltb-true b a t) in rw e (out_of_order (ltb-true b a t))
    | inr t ↦ in_order (ltb-false b a t)
  ]

pub parted : (n : ℕ) (l : List Entry) {a b : ℕ} → Sought (connections_in (map entry_of l)) (length (map entry_of l)) n a
    → Sought (connections_in (map entry_of l)) (length (map entry_of l)) (n + 1) b → Parted n l (take (max b a - a) (drop a l))
parted n l {a} {b} x y = record {
  first = a;
  count = max b a - a;
  part = refl;
  arranged = λ s.
      let e : max b a - a ≡ b - a = omega arith in
      rw e (sym (ap (take (b - a)) (drop-map entry_of a l) ∙ take-map entry_of (b - a) (drop a l)) ∙ (between n (map entry_of l) x y).arranged s);
}
