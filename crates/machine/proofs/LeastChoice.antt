-- What plan chooses for a hash is the least of the eligible candidates, by (unpreferred, priority, kind, arrival).
use Prim.Native.Nat.{ℕ, zero, suc, ◌+◌, ◌≤◌, ◌<◌}
use mathlib.Core.Path.{◌≡◌, refl, sym, ap, subst, ◌∙◌}
use mathlib.Core.Logic.{◌⊎◌, inl, inr}
use mathlib.Core.Bool.{Bool, true, false, not, ◌&&◌}
use mathlib.Core.List.{List, [], ◌∷◌}
use mathlib.Core.Option.{Option, none, some}
use native.Mathlib.Omega.{arith}
use lib.Dec.{ltb, leb}
use lib.ListN.{length, get_or}
use borrow.Author.Tests.{ltb-true, ltb-false, leb-true, lt-ltb, le-leb}
use Rattle.ident.specs.declared.Kind.{Kind}
use Rattle.ident.specs.declared.Kind.TheVariants.{Txid, Wtxid}
use Rattle.std.specs.Prelude.{if◌then◌else◌}
use Rattle.ident.specs.Number.{Key, txid, wtxid}
use Rattle.machine.specs.Limits.{max_in_flight}
use Rattle.machine.specs.State.{Candidate, Owner, Table, Entry, is_none}
use Rattle.machine.specs.Table.{at, one, owned_by}
use Rattle.machine.specs.Plan.{chosen_by, able, sooner, better, or_else, least_in, least_at, choice}
use Rattle.machine.specs.Step.{kind_number}
use Rattle.machine.specs.Choosing.{rank_of, Before, Eligible, LeastOf, ChosenFor, ChoiceLeast}
use Rattle.machine.proofs.Tests.{test, never, and_left, and_right}

-- ---- two candidates by (unpreferred, priority)

abbrev late : Candidate → ℕ
late c = one (not c.preferred)

abbrev Sooner : Candidate → Candidate → Type 0
Sooner a b = (late a < late b) ⊎ ((late a ≡ late b) × (a.priority < b.priority))

abbrev NotSooner : Candidate → Candidate → Type 0
NotSooner a b = (late b < late a) ⊎ ((late a ≡ late b) × (b.priority ≤ a.priority))

abbrev soon_by : Bool → Bool → ℕ → ℕ → Bool
soon_by x y m n = if x && not y then true else if y && not x then false else ltb m n

by_true : (x y : Bool) (m n : ℕ) → soon_by x y m n ≡ true → (one (not x) < one (not y)) ⊎ ((one (not x) ≡ one (not y)) × (m < n))
by_true true true m n e = inr (refl, ltb-true m n e)
by_true true false m n e = inl (omega arith)
by_true false true m n e = never e
by_true false false m n e = inr (refl, ltb-true m n e)

by_false : (x y : Bool) (m n : ℕ) → soon_by x y m n ≡ false → (one (not y) < one (not x)) ⊎ ((one (not x) ≡ one (not y)) × (n ≤ m))
by_false true true m n e = inr (refl, ltb-false m n e)
by_false true false m n e = never (sym e)
by_false false true m n e = inl (omega arith)
by_false false false m n e = inr (refl, ltb-false m n e)

is_sooner : (a b : Candidate) → sooner a b ≡ true → Sooner a b
unfolding sooner
is_sooner a b e = by_true a.preferred b.preferred a.priority b.priority e

not_sooner : (a b : Candidate) → sooner a b ≡ false → NotSooner a b
unfolding sooner
not_sooner a b e = by_false a.preferred b.preferred a.priority b.priority e

never_both : (a b : Candidate) → Sooner a b → NotSooner b a
never_both a b (inl x) = inl x
never_both a b (inr x) = inr (sym x.0, omega (arith, x.1))

-- neither is a sooner than b nor b than c
not_through : (a b c : Candidate) → NotSooner a b → NotSooner b c → NotSooner a c
not_through a b c (inl x) (inl y) = inl (omega arith)
not_through a b c (inl x) (inr y) = inl (omega (arith, y.0))
not_through a b c (inr x) (inl y) = inl (omega (arith, x.0))
not_through a b c (inr x) (inr y) = inr (x.0 ∙ y.0, omega (arith, x.1, y.1))

not_itself : (a : Candidate) → NotSooner a a
not_itself a = inr (refl, omega arith)

-- ---- the candidates of one request

record Stands (cs : List Candidate) (j : ℕ) (x : Candidate) : Type 0 where
  inside : j < length cs
  is : (d : Candidate) → get_or cs j d ≡ x

behind_one : {c : Candidate} {cs : List Candidate} {j : ℕ} {x : Candidate} → Stands cs j x → Stands (c ∷ cs) (suc j) x
behind_one s = record { inside = omega (arith, s.inside); is = λ d. s.is d }

further : {c : Candidate} {cs : List Candidate} {j : ℕ} {x : Candidate} → Stands (c ∷ cs) (suc j) x → Stands cs j x
further s = record { inside = omega (arith, s.inside); is = λ d. s.is d }

-- c passes, none that does is sooner, and it is sooner than those that came before it
record Best (p : Candidate → Bool) (cs : List Candidate) (c : Candidate) : Type 0 where
  index : ℕ
  stands : Stands cs index c
  passes : p c ≡ true
  least : (j : ℕ) (x : Candidate) → Stands cs j x → p x ≡ true → NotSooner x c
  first : (j : ℕ) (x : Candidate) → j < index → Stands cs j x → p x ≡ true → Sooner c x

abbrev BestOf : (Candidate → Bool) → Key → List Candidate → Option Entry → Type 0
BestOf p k cs none = (j : ℕ) (x : Candidate) → Stands cs j x → p x ≡ true → ⊥
BestOf p k cs (some b) = (b.key ≡ k) × Best p cs b.candidate

module _ (p : Candidate → Bool) (k : Key) (c : Candidate) (cs : List Candidate) where
  -- c does not pass
  skips : (o : Option Entry) → p c ≡ false → BestOf p k cs o → BestOf p k (c ∷ cs) o
  skips none e h = none_here
    where
      none_here : (j : ℕ) (x : Candidate) → Stands (c ∷ cs) j x → p x ≡ true → ⊥
      none_here zero x s y = never (sym e ∙ ap p (s.is c) ∙ y)
      none_here (suc j) x s y = h j x (further s) y
  skips (some b) e h = (h.0, record { index = suc g.index; stands = behind_one g.stands; passes = g.passes; least = least; first = first })
    where
      g : Best p cs b.candidate
      g = h.1

      least : (j : ℕ) (x : Candidate) → Stands (c ∷ cs) j x → p x ≡ true → NotSooner x b.candidate
      least zero x s y = never (sym e ∙ ap p (s.is c) ∙ y)
      least (suc j) x s y = g.least j x (further s) y

      first : (j : ℕ) (x : Candidate) → j < suc g.index → Stands (c ∷ cs) j x → p x ≡ true → Sooner b.candidate x
      first zero x h s y = never (sym e ∙ ap p (s.is c) ∙ y)
      first (suc j) x h s y = g.first j x (omega arith) (further s) y

  at_first : Stands (c ∷ cs) 0 c
  at_first = record { inside = omega arith; is = λ d. refl }

  -- c passes: it is taken unless one of the others is sooner
  takes-better : (o : Option Entry) → p c ≡ true → BestOf p k cs o → BestOf p k (c ∷ cs) (better (record { key = k; candidate = c }) o)
  unfolding better
  takes-better none e h = (refl, record { index = 0; stands = at_first; passes = e; least = least; first = λ j x l s y. absurd (omega arith) })
    where
      least : (j : ℕ) (x : Candidate) → Stands (c ∷ cs) j x → p x ≡ true → NotSooner x c
      least zero x s y = rw (sym (s.is c)) (not_itself c)
      least (suc j) x s y = absurd (h j x (further s) y)
  takes-better (some b) e h = elim (test (sooner b.candidate c)) [ inl d ↦ rw d (behind (is_sooner b.candidate c d)) | inr d ↦ rw d (here (not_sooner b.candidate c d)) ]
    where
      g : Best p cs b.candidate
      g = h.1

      behind : Sooner b.candidate c → BestOf p k (c ∷ cs) (some b)
      behind d = (h.0, record { index = suc g.index; stands = behind_one g.stands; passes = g.passes; least = least; first = first })
        where
          least : (j : ℕ) (x : Candidate) → Stands (c ∷ cs) j x → p x ≡ true → NotSooner x b.candidate
          least zero x s y = rw (sym (s.is c)) (never_both b.candidate c d)
          least (suc j) x s y = g.least j x (further s) y

          first : (j : ℕ) (x : Candidate) → j < suc g.index → Stands (c ∷ cs) j x → p x ≡ true → Sooner b.candidate x
          first zero x l s y = rw (sym (s.is c)) d
          first (suc j) x l s y = g.first j x (omega arith) (further s) y

      here : NotSooner b.candidate c → BestOf p k (c ∷ cs) (some (record { key = k; candidate = c }))
      here d = (refl, record { index = 0; stands = at_first; passes = e; least = least; first = λ j x l s y. absurd (omega arith) })
        where
          least : (j : ℕ) (x : Candidate) → Stands (c ∷ cs) j x → p x ≡ true → NotSooner x c
          least zero x s y = rw (sym (s.is c)) (not_itself c)
          least (suc j) x s y = not_through x b.candidate c (g.least j x (further s) y) d

least-in : (p : Candidate → Bool) (k : Key) (cs : List Candidate) → BestOf p k cs (least_in p k cs)
unfolding least_in
least-in p k [] = λ j x s y. omega (arith, s.inside)
least-in p k (c ∷ cs) = elim (test (p c)) [ inl e ↦ rw e (takes-better p k c cs (least_in p k cs) e (least-in p k cs)) | inr e ↦ rw e (skips p k c cs (least_in p k cs) e (least-in p k cs)) ]

-- ---- the eligible of one key

module _ (now : ℕ) (t : Table) (l : List Entry) where
  able-ready : (c : Candidate) → able now t l c ≡ true → c.ready ≤ now
  unfolding able
  able-ready c e = leb-true c.ready now (and_left (leb c.ready now) _ e)

  able_few : (c : Candidate) → able now t l c ≡ true → owned_by c.connection t + chosen_by c.connection l < max_in_flight
  unfolding able
  able_few c e = ltb-true (owned_by c.connection t + chosen_by c.connection l) max_in_flight (and_right (leb c.ready now) _ e)

  eligible-able : {k : Key} {i : ℕ} {c : Candidate} → Eligible now t l k i c → able now t l c ≡ true
  unfolding able
  eligible-able {c = c} g = rw (le-leb c.ready now g.ready, lt-ltb (owned_by c.connection t + chosen_by c.connection l) max_in_flight g.few)

  stands_in : {k : Key} {i : ℕ} {c : Candidate} → Eligible now t l k i c → Stands (at k t).candidates i c
  stands_in g = record { inside = g.inside; is = g.is }

  record LeastAt (k : Key) (b : Candidate) : Type 0 where
    index : ℕ
    eligible : Eligible now t l k index b
    least : (i : ℕ) (c : Candidate) → Eligible now t l k i c → NotSooner c b
    first : (i : ℕ) (c : Candidate) → i < index → Eligible now t l k i c → Sooner b c

  abbrev LeastFor : Key → Option Entry → Type 0
  LeastFor k none = (i : ℕ) (c : Candidate) → Eligible now t l k i c → ⊥
  LeastFor k (some b) = (b.key ≡ k) × LeastAt k b.candidate

  from_best : (k : Key) (o : Option Entry) → (at k t).owner ≡ none → BestOf (able now t l) k (at k t).candidates o → LeastFor k o
  from_best k none f h = λ i c g. h i c (stands_in g) (eligible-able g)
  from_best k (some b) f h = (
    h.0,
    record {
      index = g.index;
      eligible = record { inside = g.stands.inside; is = g.stands.is; free = f; ready = able-ready b.candidate g.passes; few = able_few b.candidate g.passes };
      least = λ i c e. g.least i c (stands_in e) (eligible-able e);
      first = λ i c j e. g.first i c j (stands_in e) (eligible-able e);
    },
  )
    where
      g : Best (able now t l) (at k t).candidates b.candidate
      g = h.1

  least_at_lem : (k : Key) → LeastFor k (least_at (able now t l) k t)
  unfolding least_at
  least_at_lem k = go (at k t).owner refl
    where
      go : (o : Option Owner) → (at k t).owner ≡ o → LeastFor k (if is_none o then least_in (able now t l) k (at k t).candidates else none)
      go none e = from_best k (least_in (able now t l) k (at k t).candidates) e (least-in (able now t l) k (at k t).candidates)
      go (some o) e = λ i c g. let z : ◌≡◌ {A = ℕ} 0 1 = ap (λ (x : Option Owner). one (is_none x)) (sym e ∙ g.free) in omega arith

  -- ---- the two kinds of a hash

  -- the only way to come before one that is not later by the first two
  before_then : (k j : Key) (i n : ℕ) (c b : Candidate) → NotSooner c b → Before (rank_of k i c) (rank_of j n b)
      → (late c ≡ late b) × (c.priority ≡ b.priority) × ((kind_number k.kind < kind_number j.kind) ⊎ ((kind_number k.kind ≡ kind_number j.kind) × (i < n)))
  before_then k j i n c b (inl x) (inl y) = absurd (omega arith)
  before_then k j i n c b (inr x) (inl y) = absurd (omega (arith, x.0))
  before_then k j i n c b (inl x) (inr y) = absurd (omega (arith, y.0))
  before_then k j i n c b (inr x) (inr y) = elim y.1 [ inl z ↦ absurd (omega (arith, x.1)) | inr z ↦ (y.0, z.0, z.1) ]

  not_equal : (b c : Candidate) → Sooner b c → late c ≡ late b → c.priority ≡ b.priority → ⊥
  not_equal b c (inl x) e d = omega arith
  not_equal b c (inr x) e d = omega (arith, x.1)

  -- within one key arrival decides
  same_kind_lem : (k : Key) (b : Candidate) (g : LeastAt k b) (i : ℕ) (c : Candidate) → Eligible now t l k i c → Before (rank_of k i c) (rank_of k g.index b) → ⊥
  same_kind_lem k b g i c e x =
      let y = before_then k k i g.index c b (g.least i c e) x in
      elim y.2 [ inl z ↦ omega arith | inr z ↦ not_equal b c (g.first i c z.1 e) y.0 y.1 ]

  through : (b a c : Candidate) → Sooner b a → NotSooner c a → Sooner b c
  through b a c (inl x) (inl y) = inl (omega arith)
  through b a c (inl x) (inr y) = inl (omega (arith, y.0))
  through b a c (inr x) (inl y) = inl (omega (arith, x.0))
  through b a c (inr x) (inr y) = inr (omega (arith, x.0, y.0), omega (arith, x.1, y.1))

  key-is : (k : Key) (h : ℕ) → k.hash ≡ h → (k ≡ txid h) ⊎ (k ≡ wtxid h)
  key-is k h e = go k.kind refl
    where
      go : (x : Kind) → k.kind ≡ x → (k ≡ txid h) ⊎ (k ≡ wtxid h)
      go Txid d = inl (λ i. record { kind = d i; hash = e i })
      go Wtxid d = inr (λ i. record { kind = d i; hash = e i })

  -- j's least is the hash's, if none of the other kind comes before it
  of_both : (h : ℕ) (j : Key) (b : Entry) → b.key ≡ j → j.hash ≡ h → (g : LeastAt j b.candidate)
      → ((k : Key) (i : ℕ) (c : Candidate) → (k ≡ j → ⊥) → k.hash ≡ h → Eligible now t l k i c → Before (rank_of k i c) (rank_of j g.index b.candidate) → ⊥) → LeastOf now t l h b
  of_both h j b e d g f = subst (LeastOf now t l h) (λ i. record { key = sym e i; candidate = b.candidate }) (record { hash = d; arrival = g.index; eligible = g.eligible; least = least })
    where
      least : (k : Key) (i : ℕ) (c : Candidate) → k.hash ≡ h → Eligible now t l k i c → Before (rank_of k i c) (rank_of j g.index b.candidate) → ⊥
      least k i c u x y =
          f k i c (λ z. same_kind_lem j b.candidate g i c (subst (λ (a : Key). Eligible now t l a i c) z x) (subst (λ (a : Key). Before (rank_of a i c) (rank_of j g.index b.candidate)) z y)) u x y

  -- what one kind has, with what the other has
  module _ (h : ℕ) where
    Rival : Key → ℕ → Candidate → Type 0
    Rival j n b = (k : Key) (i : ℕ) (c : Candidate) → (k ≡ j → ⊥) → k.hash ≡ h → Eligible now t l k i c → Before (rank_of k i c) (rank_of j n b) → ⊥

    -- the Wtxid key's is not before b if its candidates are not sooner
    as_txid : (n : ℕ) (b : Candidate) → ((i : ℕ) (c : Candidate) → Eligible now t l (wtxid h) i c → NotSooner c b) → Rival (txid h) n b
    unfolding Rival
    as_txid n b f k i c z u x y =
        elim (key-is k h u) [
          | inl d ↦ absurd (z d)
          | inr d ↦
              let w = before_then (wtxid h) (txid h) i n c b (f i c (subst (λ (a : Key). Eligible now t l a i c) d x)) (subst (λ (a : Key). Before (rank_of a i c) (rank_of (txid h) n b)) d y) in
              elim w.2 [ inl q ↦ omega arith | inr q ↦ omega (arith, q.0) ]
        ]

    -- the Txid key's is not before b only if b is sooner
    as_wtxid : (n : ℕ) (b : Candidate) → ((i : ℕ) (c : Candidate) → Eligible now t l (txid h) i c → Sooner b c) → Rival (wtxid h) n b
    unfolding Rival
    as_wtxid n b f k i c z u x y =
        elim (key-is k h u) [
          | inl d ↦
              let g = f i c (subst (λ (a : Key). Eligible now t l a i c) d x) in
              let w = before_then (txid h) (wtxid h) i n c b (never_both b c g) (subst (λ (a : Key). Before (rank_of a i c) (rank_of (wtxid h) n b)) d y) in
              not_equal b c g w.0 w.1
          | inr d ↦ absurd (z d)
        ]

    chosen : (x y : Option Entry) → LeastFor (txid h) x → LeastFor (wtxid h) y → ChosenFor now t l h (or_else x y)
    unfolding or_else better Rival
    chosen none none p q = λ k i c e g.
        elim (key-is k h e) [ inl d ↦ p i c (subst (λ (a : Key). Eligible now t l a i c) d g) | inr d ↦ q i c (subst (λ (a : Key). Eligible now t l a i c) d g) ]
    chosen none (some b) p q = of_both h (wtxid h) b q.0 refl q.1 (as_wtxid q.1.index b.candidate (λ i c g. absurd (p i c g)))
    chosen (some a) none p q = of_both h (txid h) a p.0 refl p.1 (as_txid p.1.index a.candidate (λ i c g. absurd (q i c g)))
    chosen (some a) (some b) p q =
        elim (test (sooner b.candidate a.candidate)) [
          | inl d ↦
              let s = is_sooner b.candidate a.candidate d in
              rw d (of_both h (wtxid h) b q.0 refl q.1 (as_wtxid q.1.index b.candidate (λ i c g. through b.candidate a.candidate c s (p.1.least i c g))))
          | inr d ↦
              let s = not_sooner b.candidate a.candidate d in
              rw d (of_both h (txid h) a p.0 refl p.1 (as_txid p.1.index a.candidate (λ i c g. not_through c b.candidate a.candidate (q.1.least i c g) s)))
        ]

-- ---- the choice

pub choice_least : ChoiceLeast
unfolding choice
choice_least now t l k = chosen now t l k.hash _ _ (least_at_lem now t l (txid k.hash)) (least_at_lem now t l (wtxid k.hash))
