-- The owners that are due, walked in key order on the table that stands: expiring one neither adds nor removes a later one.
use Prim.Native.Nat.{ℕ, suc, ◌≤◌, ◌<◌}
use mathlib.Core.Path.{◌≡◌, refl, sym, ap, subst, ◌∙◌}
use mathlib.Core.Logic.{◌⊎◌, inl, inr}
use mathlib.Core.Bool.{true}
use mathlib.Core.List.{List, [], ◌∷◌, ◌++◌, append_assoc, append-nil}
use mathlib.Core.Option.{Option, none, some}
use native.Mathlib.Omega.{arith}
use lib.Dec.{leb}
use borrow.Author.Tests.{leb-true, le-leb, lt-leb, eq-eqb}
use Rattle.std.specs.Prelude.{if◌then◌else◌}
use Rattle.ident.specs.Number.{top, Key, place}
use Rattle.machine.specs.Limits.{Limits, word}
use Rattle.machine.specs.State.{Owner, Request, Table, blank, owner_is}
use Rattle.machine.specs.Table.{at}
use Rattle.machine.specs.Fail.{Listed}
use Rattle.machine.specs.Plan.{Due, due_of, due, expire}
use Rattle.machine.specs.Sound.{Ordered, All, Lawful, Bounded}
use Rattle.machine.proofs.Alone.{Hold, alone-parents}
use Rattle.machine.proofs.Expired.{failed-elsewhere}
use Rattle.machine.proofs.Fail.{few_for, bounded-failed, owner-peer}
use Rattle.machine.proofs.Plan.{DueTyped, bounded-due}
use Rattle.machine.proofs.Same.{walk, walk_same}
use Rattle.machine.proofs.Table.{at_key, lawful_at}
use Rattle.machine.proofs.Tests.{test, by_test}
use Rattle.apart.specs.Lapsing.{expire_at}
use Rattle.planning.specs.Expiring.{due_here, due_from}

-- ---- tables whose owners agree from a place on have the same due there

abbrev due_as : ℕ → ℕ → Key → Option Owner → List Due
due_as now x k o = if leb x (place k) then due_of now k o else []

as_walk : (now x : ℕ) (t : Table) → walk (λ r a. due_here now x r ++ a) [] t ≡ due_from now x t
unfolding walk due_from
as_walk now x [] = refl
as_walk now x (r ∷ t) = ap (λ (l : List Due). due_here now x r ++ l) (as_walk now x t)

blank-due : (now x : ℕ) (k : Key) (a : List Due) → due_here now x (blank k) ++ a ≡ a
blank-due now x k a = by_test (λ (l : List Due). l ++ a ≡ a) (leb x (place k)) (λ e. refl) (λ e. refl)

module _ (now x : ℕ) (t' t : Table) (o' : Ordered 0 t') (o : Ordered 0 t) (e : (j : Key) → j.hash < top → x ≤ place j → (at j t').owner ≡ (at j t).owner) where
  same_at : (j : Key) → j.hash < top → (a : List Due) → due_here now x (at j t') ++ a ≡ due_here now x (at j t) ++ a
  same_at j s a =
      ap (λ (k : Key). due_as now x k (at j t').owner ++ a) (at_key j 0 t' s o')
      ∙ elim (test (leb x (place j))) [
        | inl d ↦ ap (λ (w : Option Owner). due_as now x j w ++ a) (e j s (leb-true x (place j) d))
        | inr d ↦ rw d refl
      ]
      ∙ sym (ap (λ (k : Key). due_as now x k (at j t).owner ++ a) (at_key j 0 t s o))

  pub due_same : due_from now x t' ≡ due_from now x t
  due_same = sym (as_walk now x t') ∙ walk_same (λ r a. due_here now x r ++ a) [] (blank-due now x) 0 0 t' t o' o same_at ∙ as_walk now x t

-- ---- the first of them

-- one is due at r
pub record DueOne (now x : ℕ) (r : Request) : Type 0 where
  pub connection : ℕ
  pub from : x ≤ place r.key
  pub owns : owner_is connection r.owner ≡ true
  pub is : due_here now x r ≡ record { key = r.key; connection = connection } ∷ []

due-owner : (now x : ℕ) (r : Request) (o : Option Owner) → r.owner ≡ o → leb x (place r.key) ≡ true → (due_here now x r ≡ []) ⊎ DueOne now x r
due-owner now x r none e d = inl (ap (due_as now x r.key) e ∙ rw d refl)
due-owner now x r (some o) e d =
    elim (test (leb o.deadline now)) [
      | inl l ↦ inr (record {
        connection = o.connection;
        from = leb-true x (place r.key) d;
        owns = ap (owner_is o.connection) e ∙ eq-eqb o.connection o.connection refl;
        is = ap (due_as now x r.key) e ∙ rw (d, l) refl;
      })
      | inr l ↦ inl (ap (due_as now x r.key) e ∙ rw (d, l) refl)
    ]

pub due_cases : (now x : ℕ) (r : Request) → (due_here now x r ≡ []) ⊎ DueOne now x r
due_cases now x r = elim (test (leb x (place r.key))) [ inl d ↦ due-owner now x r r.owner refl d | inr d ↦ inl (rw d refl) ]

due-before : (now x : ℕ) (r : Request) → place r.key < x → due_here now x r ≡ []
due-before now x r h = rw (lt-leb x (place r.key) h) refl

-- every place is behind x
pub due_whole : (now x lo : ℕ) (t : Table) → x ≤ lo → Ordered lo t → due_from now x t ≡ due now t
unfolding due_from due
due_whole now x lo [] h o = refl
due_whole now x lo (r ∷ t) h o = rw (le-leb x (place r.key) (omega (arith, o.0))) (ap (λ (l : List Due). due_of now r.key r.owner ++ l) (due_whole now x (suc (place r.key)) t (omega (arith, o.0))
    o.2))

-- the first one, and those after it
pub record First (now lo : ℕ) (t : Table) (d : Due) (ds : List Due) : Type 0 where
  pub low : lo ≤ place d.key
  pub typed : DueTyped d
  pub rest : due_from now (suc (place d.key)) t ≡ ds

pub due_first : (now x lo : ℕ) (t : Table) (d : Due) (ds : List Due) → Ordered lo t → All Lawful t → due_from now x t ≡ d ∷ ds → First now lo t d ds
unfolding due_from
due_first now x lo [] d ds o l e = let z : ◌≡◌ {A = ℕ} 0 1 = cc in absurd (omega arith)
due_first now x lo (r ∷ t) d ds o l e =
    elim (due_cases now x r) [
      | inl z ↦
          let f = due_first now x (suc (place r.key)) t d ds o.2 l.1 (sym (ap (λ (a : List Due). a ++ due_from now x t) z) ∙ e) in
          record {
            low = omega (arith, f.low, o.0);
            typed = f.typed;
            rest = ap (λ (a : List Due). a ++ due_from now (suc (place d.key)) t) (due-before now (suc (place d.key)) r (omega (arith, f.low))) ∙ f.rest;
          }
      | inr z ↦
          let f : ◌≡◌ {A = List Due} (record { key = r.key; connection = z.connection } ∷ due_from now x t) (d ∷ ds) = sym (ap (λ (a : List Due). a ++ due_from now x t) z.is) ∙ e in
          let k : ◌≡◌ {A = Due} (record { key = r.key; connection = z.connection }) d = cc in
          let q : due_from now x t ≡ ds = cc in
          subst (λ (a : Due). First now lo (r ∷ t) a ds) k (record {
            low = o.0;
            typed = record { key = o.1; peer = owner-peer z.connection r l.0 z.owns };
            rest = ap (λ (a : List Due). a ++ due_from now (suc (place r.key)) t) (due-before now (suc (place r.key)) r (omega arith))
                ∙ due_whole now (suc (place r.key)) _ t (omega arith) o.2
                ∙ sym (due_whole now x _ t (omega (arith, z.from)) o.2) ∙ q;
          })
    ]

-- ---- one expired

module _ {m : Limits} {Q : ℕ} {t : Table} (now : ℕ) (d : Due) (w : now < word) (a : DueTyped d) (b : Bounded m Q t) where
  abbrev after : Table
  after = (expire_at m now d.key d.connection t).table

  owner_stays : (j : Key) → j.hash < top → (place j ≡ place d.key → ⊥) → (at j after).owner ≡ (at j t).owner
  owner_stays j s n =
      let f = bounded-failed d.key d.connection now a.key w b in
      let p = alone-parents d.connection now _ a.peer w (few_for d.connection (at d.key t) (lawful_at d.key t b.lawful)) f in
      ap (λ (h : Hold). h.owner) (p.hold j s ∙ failed-elsewhere d.key d.connection now a.key b j s n)

  -- those due behind it are the same
  pub due-behind : due_from now (suc (place d.key)) after ≡ due_from now (suc (place d.key)) t
  due-behind = due_same now (suc (place d.key)) after t (bounded-due now d w a b).ordered b.ordered (λ j s h. owner_stays j s (λ e. omega (arith, h, e)))

-- ---- expiring on the way

-- what is left to expire, from the place x on in the table t, comes behind the keys ks to all that expires
pub record Expiring (m : Limits) (now : ℕ) (all : Listed) (x : ℕ) (t : Table) (ks : List Key) : Type 0 where
  pub keys : ks ++ (expire m now (due_from now x t) t).keys ≡ all.keys
  pub table : (expire m now (due_from now x t) t).table ≡ all.table

pub expiring_start : (m : Limits) (now : ℕ) (t : Table) → Ordered 0 t → Expiring m now (expire m now (due now t) t) 0 t []
expiring_start m now t o =
    let e = due_whole now 0 0 t (omega arith) o in
    record { keys = ap (λ (ds : List Due). (expire m now ds t).keys) e; table = ap (λ (ds : List Due). (expire m now ds t).table) e }

module _ {m : Limits} {now x : ℕ} {all : Listed} {t : Table} {ks : List Key} (g : Expiring m now all x t ks) where
  pub expiring_end : due_from now x t ≡ [] → (ks ≡ all.keys) × (t ≡ all.table)
  unfolding expire
  expiring_end e = (sym (append-nil ks) ∙ sym (ap (λ (ds : List Due). ks ++ (expire m now ds t).keys) e) ∙ g.keys, sym (ap (λ (ds : List Due). (expire m now ds t).table) e) ∙ g.table)

  pub expiring_more : {Q : ℕ} (d : Due) (ds : List Due) → now < word → Bounded m Q t → due_from now x t ≡ d ∷ ds
      → Expiring m now all (suc (place d.key)) (expire_at m now d.key d.connection t).table (ks ++ (expire_at m now d.key d.connection t).keys)
  unfolding expire
  expiring_more d ds w b e =
      let a = expire_at m now d.key d.connection t in
      let f = due_first now x 0 t d ds b.ordered b.lawful e in
      let q : due_from now (suc (place d.key)) a.table ≡ ds = due-behind now d w f.typed b ∙ f.rest in
      record {
        keys = ap (λ (l : List Due). (ks ++ a.keys) ++ (expire m now l a.table).keys) q ∙ append_assoc ks a.keys (expire m now ds a.table).keys
            ∙ sym (ap (λ (l : List Due). ks ++ (expire m now l t).keys) e) ∙ g.keys;
        table = ap (λ (l : List Due). (expire m now l a.table).table) q ∙ sym (ap (λ (l : List Due). (expire m now l t).table) e) ∙ g.table;
      }
