-- Successive batches of keys, each from the last key of the one before on, reach every key that stays. Sweeps are such batches,
-- of 1,024 keys; the law asks only that each has room for `size` keys, so that it also serves batches whose sizes differ.
use Prim.Native.Nat.{ℕ, suc, ◌+◌, ◌-◌, ◌*◌, ◌/◌, ◌≤◌, ◌<◌}
use mathlib.Core.Path.{◌≡◌, refl, sym, ap, ◌∙◌}
use mathlib.Core.Logic.{inl, inr}
use mathlib.Core.Bool.{Bool, true, false, or-false}
use mathlib.Core.List.{List, [], ◌∷◌, ◌++◌, map}
use mathlib.Core.Option.{Option, none, some}
use native.Mathlib.Omega.{arith}
use native.Mathlib.Nat.{suc-mul, div-lt_iff_lt-mul}
use lib.Dec.{ltb, leb, eqb}
use lib.ListN.{length, take, length-append}
use borrow.Author.Tests.{ltb-true, ltb-false, eqb-true, lt-ltb, le-ltb, lt-leb, le-leb}
use Rattle.std.specs.Prelude.{if◌then◌else◌}
use Rattle.ident.specs.Number.{top, Key, place}
use Rattle.machine.specs.Sweep.{only, round, last_of}
use Rattle.machine.specs.Demand3.{mem, less, unique, flat}
use Rattle.machine.specs.Typed.{Each}
use Rattle.machine.proofs.Tests.{test, never}
use Rattle.machine.proofs.FairLists.{mem_same, mem-append, mem_left, mem_right, absent_left, absent_right, mem-take, Asc, Below, asc_weaken, asc_append, mem_above, mem_below}
use Rattle.machine.proofs.FairLists.{last-of, asc_join, mem_less, less_shorter, mem_unique, pigeonhole, before, before_left, before_right, take-full, take-before}

-- ---- batches

pub record Batch : Type 0 where
  -- how many keys it hands out at the most, and the keys held then
  pub size : ℕ
  pub held : List Key

abbrev pub batch : Option Key → Batch → List Key
batch c b = take b.size (round c b.held)

unfoldable pub batches : Option Key → List Batch → List (List Key)
batches c [] = []
batches c (b ∷ bs) = batch c b ∷ batches (last_of (batch c b)) bs

-- the measure of a place in the order of keys
abbrev pub self : ℕ → ℕ
self n = n

-- above every place
abbrev pub end : ℕ
end = top + top

-- keys in order, k among them, and room for `size`
pub record Holds (size : ℕ) (k : Key) (b : Batch) : Type 0 where
  pub ascending : Asc self 0 b.held
  pub inside : Below self end b.held
  pub member : mem k b.held ≡ true
  pub room : size ≤ b.size

abbrev pub helds : List Batch → List (List Key)
helds bs = map (λ b. b.held) bs

-- ---- the keys whose places pass a test

asc_only : (p : ℕ → Bool) (a : ℕ) (l : List Key) → Asc self a l → Asc self a (only p l)
unfolding only
asc_only p a [] o = tt
asc_only p a (x ∷ l) o =
    elim (test (p (place x))) [
      | inl e ↦ rw e (o.0, asc_only p (suc (place x)) l o.1)
      | inr e ↦ rw e (asc_weaken self a _ (only p l) (omega arith) (asc_only p (suc (place x)) l o.1))
    ]

-- all above a number, if the test says so
only_above : (p : ℕ → Bool) (c a : ℕ) (l : List Key) → ((n : ℕ) → p n ≡ true → c ≤ n) → Asc self a l → Asc self c (only p l)
unfolding only
only_above p c a [] h o = tt
only_above p c a (x ∷ l) h o =
    elim (test (p (place x))) [
      | inl e ↦ rw e (h (place x) e, asc_only p (suc (place x)) l o.1)
      | inr e ↦ rw e (only_above p c (suc (self (place x))) l h o.1)
    ]

below_only : (p : ℕ → Bool) (m : ℕ) (l : List Key) → Below self m l → Below self m (only p l)
unfolding only
below_only p m [] u = tt
below_only p m (x ∷ l) u = elim (test (p (place x))) [ inl e ↦ rw e (u.0, below_only p m l u.1) | inr e ↦ rw e (below_only p m l u.1) ]

mem_in : (p : ℕ → Bool) (k : Key) (l : List Key) → p (place k) ≡ true → mem k (only p l) ≡ mem k l
unfolding only mem
mem_in p k [] h = refl
mem_in p k (x ∷ l) h =
    elim (test (eqb (place x) (place k))) [
      | inl d ↦ rw (ap p (eqb-true (place x) (place k) d) ∙ h, d)
      | inr d ↦ elim (test (p (place x))) [ inl e ↦ rw (e, d) (mem_in p k l h) | inr e ↦ rw (e, d) (mem_in p k l h) ]
    ]

mem_out : (p : ℕ → Bool) (k : Key) (l : List Key) → p (place k) ≡ false → mem k (only p l) ≡ false
unfolding only mem
mem_out p k [] h = refl
mem_out p k (x ∷ l) h =
    elim (test (eqb (place x) (place k))) [
      | inl d ↦ rw (eqb-true (place x) (place k) d, h) (mem_out p k l h)
      | inr d ↦ elim (test (p (place x))) [ inl e ↦ rw (e, d) (mem_out p k l h) | inr e ↦ rw e (mem_out p k l h) ]
    ]

-- ---- places in the order that begins just after k, and ends with it

turn : Key → ℕ → ℕ
turn k n = if ltb (place k) n then n else n + end

turn_up : (k : Key) (n : ℕ) → place k < n → turn k n ≡ n
unfolding turn
turn_up k n h = rw (lt-ltb (place k) n h)

turn_down : (k : Key) (n : ℕ) → n ≤ place k → turn k n ≡ n + end
unfolding turn
turn_down k n h = rw (le-ltb (place k) n h)

asc_before_down : (k : Key) (a : ℕ) (l : List Key) → Asc self a l → mem k l ≡ true → Asc (turn k) (a + end) (before k l)
unfolding mem before
asc_before_down k a [] o h = tt
asc_before_down k a (x ∷ l) o h =
    elim (test (eqb (place x) (place k))) [
      | inl e ↦ rw e tt
      | inr e ↦ rw (e, turn_down k (place x) (omega (arith, mem_above self k _ l o.1 (rw e at h))))
          (omega arith, asc_weaken (turn k) _ _ (before k l) (omega arith) (asc_before_down k (suc (self (place x))) l o.1 (rw e at h)))
    ]

asc_up : (k : Key) (a : ℕ) (l : List Key) → place k < a → Asc self a l → Asc (turn k) a l
asc_up k a [] h o = tt
asc_up k a (x ∷ l) h o = rw (turn_up k (place x) (omega arith)) (o.0, asc_up k (suc (place x)) l (omega arith) o.1)

below_up : (k : Key) (a : ℕ) (l : List Key) → place k < a → Asc self a l → Below self end l → Below (turn k) end l
below_up k a [] h o u = tt
below_up k a (x ∷ l) h o u = (rw (turn_up k (place x) (omega arith)) u.0, below_up k (suc (place x)) l (omega arith) o.1 u.1)

-- ---- one round

-- a round holds the keys that the list holds
mem-round : (k : Key) (c : Option Key) (l : List Key) → mem k (round c l) ≡ mem k l
unfolding round
mem-round k none l = refl
mem-round k (some c) l =
    elim (test (ltb (place c) (place k))) [
      | inl e ↦ rw (
        mem-append k (only (λ n. ltb (place c) n) l) (only (λ n. leb n (place c)) l),
        mem_in (λ n. ltb (place c) n) k l e,
        mem_out (λ n. leb n (place c)) k l (lt-leb (place k) (place c) (ltb-true (place c) (place k) e)),
      ) (or-false _)
      | inr e ↦ rw (
        mem-append k (only (λ n. ltb (place c) n) l) (only (λ n. leb n (place c)) l),
        mem_out (λ n. ltb (place c) n) k l e,
        mem_in (λ n. leb n (place c)) k l (le-leb (place k) (place c) (ltb-false (place c) (place k) e)),
      )
    ]

-- what a lower bound of the round's turns has to meet
abbrev Start : Key → Option Key → ℕ → Type 0
Start k none b = b ≤ end
Start k (some c) b = (place c < place k → b ≤ suc (place c) + end) × (place k ≤ place c → b ≤ end) × (place k ≤ place c → b ≤ suc (place c))

-- a round, as far as k, ascends in turn
asc_round : (k : Key) (c : Option Key) (b : ℕ) (l : List Key) → Start k c b → Asc self 0 l → Below self end l → mem k l ≡ true → Asc (turn k) b (before k (round c l))
unfolding round
asc_round k none b l s o u h = asc_weaken (turn k) b _ (before k l) (omega arith) (asc_before_down k 0 l o h)
asc_round k (some c) b l s o u h =
    elim (test (ltb (place c) (place k))) [
      | inl e ↦ rw (before_left k hi lo (mem_in _ k l e ∙ h)) (asc_weaken (turn k) b _ (before k hi) (s.0 (ltb-true _ _ e)) (asc_before_down k (suc (place c)) hi hi_above (mem_in _ k l e ∙ h)))
      | inr e ↦ rw (before_right k hi lo (mem_out _ k l e))
          (asc_append (turn k) b end hi (before k lo) (s.1 (ltb-false _ _ e))
          (below_up k (suc (place c)) hi (omega (arith, ltb-false)) hi_above (below_only _ end l u))
          (asc_weaken (turn k) b (suc (place c)) hi (s.2 (ltb-false _ _ e)) (asc_up k (suc (place c)) hi (omega (arith, ltb-false)) hi_above))
          (asc_weaken (turn k) end _ (before k lo) (omega arith) (asc_before_down k 0 lo (asc_only _ 0 l o) (mem_in _ k l (le-leb (place k) (place c) (ltb-false (place c) (place k) e)) ∙ h))))
    ]
  where
    hi : List Key
    hi = only (λ n. ltb (place c) n) l

    lo : List Key
    lo = only (λ n. leb n (place c)) l

    hi_above : Asc self (suc (place c)) hi
    hi_above = only_above _ (suc (place c)) 0 l (λ n e. ltb-true _ _ e) o

-- after a batch that passed k over, the next starts beyond its last key
start_next : (k z : Key) → (place z ≡ place k → ⊥) → place z < end → Start k (some z) (suc (turn k (place z)))
start_next k z d u = (
  λ h. rw (turn_down k (place z) (omega arith)) (omega arith),
  λ h. rw (turn_up k (place z) (omega (arith, d))) u,
  λ h. rw (turn_up k (place z) (omega (arith, d))) (omega arith),
)

-- ---- successive batches that all pass k over

mem-batch : (x : Key) (c : Option Key) (b : Batch) → mem x (batch c b) ≡ true → mem x b.held ≡ true
mem-batch x c b h = sym (mem-round x c b.held) ∙ mem-take b.size x (round c b.held) h

module _ (size : ℕ) (k : Key) (some-room : 0 < size) where
  full : (c : Option Key) (b : Batch) → Holds size k b → mem k (batch c b) ≡ false → size ≤ length (batch c b)
  full c b g h = omega (arith, take-full b.size k (round c b.held) (mem-round k c b.held ∙ g.member) h, g.room)

  asc_batch : (c : Option Key) (a : ℕ) (b : Batch) → Start k c a → Holds size k b → mem k (batch c b) ≡ false → Asc (turn k) a (batch c b)
  asc_batch c a b s g h = take-before (turn k) b.size k a (round c b.held) h (asc_round k c a b.held s g.ascending g.inside g.member)

  -- a rest Z that hangs on the next cursor
  chain_on : (c : Option Key) (a : ℕ) (b : Batch) (Z : Option Key → List Key) → Start k c a → Holds size k b → mem k (batch c b) ≡ false
      → ((d : Option Key) (e : ℕ) → Start k d e → mem k (Z d) ≡ false → Asc (turn k) e (Z d)) → mem k (Z (last_of (batch c b))) ≡ false
      → ((z : Key) × (last_of (batch c b) ≡ some z) × (mem z (batch c b) ≡ true)) → Asc (turn k) a (batch c b ++ Z (last_of (batch c b)))
  chain_on c a b Z s g h ih h' (z, e, m) =
      asc_join (turn k) a z (batch c b) _ e (asc_batch c a b s g h)
      (rw e (ih (some z) (suc (turn k (place z)))
      (start_next k z (λ q. never (sym h ∙ (sym (mem_same z k (batch c b) q) ∙ m))) (mem_below self z end b.held g.inside (mem-batch z c b m)))
      (rw e at h')))

  chain : (c : Option Key) (a : ℕ) (bs : List Batch) → Each (Holds size k) bs → Start k c a → mem k (flat (batches c bs)) ≡ false → Asc (turn k) a (flat (batches c bs))
  unfolding flat batches
  chain c a [] g s h = tt
  chain c a (b ∷ bs) g s h =
      let first = absent_left k (batch c b) (flat (batches (last_of (batch c b)) bs)) h in
      let rest = absent_right k (batch c b) (flat (batches (last_of (batch c b)) bs)) h in
      chain_on c a b (λ d. flat (batches d bs)) s g.0 first (λ d e. chain d e bs g.1) rest (last-of (batch c b) (omega (arith, full c b g.0 first)))

  lengths : (c : Option Key) (bs : List Batch) → Each (Holds size k) bs → mem k (flat (batches c bs)) ≡ false → length bs * size ≤ length (flat (batches c bs))
  unfolding flat batches
  lengths c [] g h = omega arith
  lengths c (b ∷ bs) g h =
      let first = absent_left k (batch c b) (flat (batches (last_of (batch c b)) bs)) h in
      let rest = absent_right k (batch c b) (flat (batches (last_of (batch c b)) bs)) h in
      rw (length-append, suc-mul (length bs) size) (omega (arith, full c b g.0 first, lengths (last_of (batch c b)) bs g.1 rest))

-- what is handed out was held
mem_batches : (x : Key) (c : Option Key) (bs : List Batch) → mem x (flat (batches c bs)) ≡ true → mem x (flat (helds bs)) ≡ true
unfolding flat batches
mem_batches x c [] h = h
mem_batches x c (b ∷ bs) h =
    elim (test (mem x (batch c b))) [
      | inl e ↦ mem_left x b.held (flat (helds bs)) (mem-batch x c b e)
      | inr e ↦ mem_right x b.held (flat (helds bs)) (mem_batches x (last_of (batch c b)) bs (rw e at (sym (mem-append x (batch c b) (flat (batches (last_of (batch c b)) bs))) ∙ h)))
    ]

-- ---- the theorem

-- With N different keys held at one or more of them, floor((N − 1) / size) + 1 batches hand out each key that all hold.
pub fair : (size : ℕ) (c : Option Key) (bs : List Batch) (k : Key) → 0 < size → Each (Holds size k) bs → (length (unique (flat (helds bs))) - 1) / size + 1 ≤ length bs
    → mem k (flat (batches c bs)) ≡ true
unfolding flat
fair size c [] k z g m = absurd (omega arith)
fair size c (b ∷ bs) k z g m =
    elim (test (mem k (flat (batches c (b ∷ bs))))) [
      | inl e ↦ e
      | inr e ↦ absurd (omega (
        arith,
        (div-lt_iff_lt-mul z).0 enough,
        lengths size k z c (b ∷ bs) g e,
        less_shorter k different (mem_unique k _ (mem_left k b.held (flat (helds bs)) g.0.member)),
        pigeonhole (turn k) 0 (flat (batches c (b ∷ bs))) (less k different) (chain size k z c 0 (b ∷ bs) g (start c) e)
            (λ x h. mem_less x k _ (mem_unique x _ (mem_batches x c (b ∷ bs) h)) (λ q. never (sym e ∙ (sym (mem_same x k _ q) ∙ h)))),
      ))
    ]
  where
    different : List Key
    different = unique (flat (helds (b ∷ bs)))

    enough : (length different - 1) / size < length (b ∷ bs)
    enough = omega arith

    start : (c : Option Key) → Start k c 0
    start none = omega arith
    start (some c) = (λ h. omega arith, λ h. omega arith, λ h. omega arith)
