-- Owners whose time is over fail one after the other, where no place is held: the same as all candidates beside them made ready first, and then all of them dropped.
use Prim.Native.Nat.{ℕ, suc, ◌≤◌, ◌<◌}
use mathlib.Core.Path.{◌≡◌, refl, sym, ap, subst, ◌∙◌}
use mathlib.Core.Logic.{◌⊎◌, inl, inr}
use mathlib.Core.Bool.{Bool, true, false}
use mathlib.Core.List.{List, [], ◌∷◌, ◌++◌, map}
use mathlib.Core.Option.{Option, none, some}
use native.Mathlib.Omega.{arith}
use lib.Dec.{ltb, leb, eqb}
use lib.ListN.{length}
use borrow.Author.Tests.{eq-eqb}
use Rattle.std.specs.Prelude.{if◌then◌else◌}
use Rattle.ident.specs.Number.{top, Key, place, other}
use Rattle.machine.specs.Limits.{Limits, word}
use Rattle.machine.specs.State.{Candidate, Owner, Request, Table, ready_at, owner_is}
use Rattle.machine.specs.Table.{at, keep, change}
use Rattle.machine.specs.Fail.{Listed, failed, dedup, parents_from, announce_parents}
use Rattle.machine.specs.Plan.{Due, due_of, due, expire}
use Rattle.machine.specs.Sound.{Ordered, All, Filled, Bounded}
use Rattle.machine.specs.Typed.{Each}
use Rattle.machine.proofs.At.{at_here, at_there}
use Rattle.machine.proofs.Change.{bounded-change}
use Rattle.machine.proofs.Fail.{bounded-failed}
use Rattle.machine.proofs.First.{change_first, change-later}
use Rattle.machine.proofs.Plan.{DueTyped, due-typed}
use Rattle.machine.proofs.Table.{filled-change, all_at, all_change}
use Rattle.machine.proofs.Tests.{test}
use Rattle.package_stages.specs.Changes.{has_place, owner_num}
use Rattle.failing.specs.Changes.{readied}
use Rattle.failing.proofs.Readied.{shrinks_ready}
use Rattle.postponing.specs.Silent.{readied_both, late, gone, dropped_in, dropped_all}
use Rattle.postponing.specs.Pending.{Unplaced}
use Rattle.postponing.proofs.Dropped.{dropped_timely}
use Rattle.postponing.proofs.Dropping.{both_swap, failed_is, calm}
use Rattle.apart.proofs.BareExpiry.{no-parents}
use Rattle.planning.specs.Expiring.{due_here, due_from}
use Rattle.planning.specs.Silent.{ready_each, silenced}
use Rattle.planning.proofs.Overdue.{due_whole}

-- ---- candidates made ready: who is due stays so

due_from_ready : (now x : ℕ) (k : Key) (t : Table) → All Filled t → due_from now x (change k (readied now) t) ≡ due_from now x t
unfolding due_from change
due_from_ready now x k [] f = unfold keep in refl
due_from_ready now x k (r ∷ t) f =
    elim (test (ltb (place k) (place r.key))) [
      | inl e ↦ rw e (unfold keep in refl)
      | inr e ↦ rw e (elim (test (eqb (place k) (place r.key))) [
        | inl d ↦ rw d (some r.candidates f.0)
        | inr d ↦ rw d (ap (λ (l : List Due). due_here now x r ++ l) (due_from_ready now x k t f.1))
      ])
    ]
  where
    some : (cs : List Candidate) → 1 ≤ length cs → due_from now x (keep (readied now r) (map (ready_at now) cs) t) ≡ due_here now x r ++ due_from now x t
    some [] h = absurd (omega arith)
    some (c ∷ cs) h = unfold keep in refl

pub due_from_both : (now x : ℕ) (k : Key) (t : Table) → All Filled t → due_from now x (readied_both now k t) ≡ due_from now x t
due_from_both now x k t f = due_from_ready now x (other k) (change k (readied now) t) (filled-change k (readied now) t f) ∙ due_from_ready now x k t f

abbrev Free : Request → Type 0
Free r = has_place r ≡ false

unplaced_ready : (now : ℕ) (k : Key) (t : Table) → Ordered 0 t → Unplaced t → Unplaced (change k (readied now) t)
unplaced_ready now k t o a = all_change Free k (readied now) 0 t o (all_at Free k t refl a) a

module _ {m : Limits} {Q : ℕ} (now : ℕ) (w : now < word) where
  module _ {t : Table} (k : Key) (s : k.hash < top) (b : Bounded m Q t) where
    pub bounded_half : Bounded m Q (change k (readied now) t)
    bounded_half = bounded-change k (readied now) s (shrinks_ready now w) b

    pub bounded_both : Bounded m Q (readied_both now k t)
    bounded_both = bounded-change (other k) (readied now) s (shrinks_ready now w) bounded_half

    unplaced_both : Unplaced t → Unplaced (readied_both now k t)
    unplaced_both a = unplaced_ready now (other k) (change k (readied now) t) bounded_half.ordered (unplaced_ready now k t b.ordered a)

    due_both : due now (readied_both now k t) ≡ due now t
    due_both = sym (due_whole now 0 0 (readied_both now k t) (omega arith) bounded_both.ordered) ∙ due_from_both now 0 k t b.filled ∙ due_whole now 0 0 t (omega arith) b.ordered

  pub bounded_each : (ds : List Due) (t : Table) → Each DueTyped ds → Bounded m Q t → Bounded m Q (ready_each now ds t)
  unfolding ready_each
  bounded_each [] t a b = b
  bounded_each (d ∷ ds) t a b = bounded_each ds (readied_both now d.key t) a.1 (bounded_both d.key a.0.key b)

  pub unplaced_each : (ds : List Due) (t : Table) → Each DueTyped ds → Bounded m Q t → Unplaced t → Unplaced (ready_each now ds t)
  unfolding ready_each
  unplaced_each [] t a b u = u
  unplaced_each (d ∷ ds) t a b u = unplaced_each ds (readied_both now d.key t) a.1 (bounded_both d.key a.0.key b) (unplaced_both d.key a.0.key b u)

  due_each : (ds : List Due) (t : Table) → Each DueTyped ds → Bounded m Q t → due now (ready_each now ds t) ≡ due now t
  unfolding ready_each
  due_each [] t a b = refl
  due_each (d ∷ ds) t a b = due_each ds (readied_both now d.key t) a.1 (bounded_both d.key a.0.key b) ∙ due_both d.key a.0.key b

  -- one dropped before, or behind
  each_swap : (n : ℕ) (k : Key) (ds : List Due) (t : Table) → k.hash < top → Each DueTyped ds → Bounded m Q t → ready_each now ds (change k (gone n) t) ≡ change k (gone n) (ready_each now ds t)
  unfolding ready_each
  each_swap n k [] t s a b = refl
  each_swap n k (d ∷ ds) t s a b =
      ap (ready_each now ds) (sym (both_swap n now k s d.key t a.0.key b.ordered b.filled)) ∙ each_swap n k ds (readied_both now d.key t) s a.1 (bounded_both d.key a.0.key b)

-- ---- the first that is due is dropped

-- r's owner is late
record Late (now : ℕ) (r : Request) : Type 0 where
  connection : ℕ
  owns : owner_is connection r.owner ≡ true
  num : owner_num r.owner ≡ connection
  over : late now r.owner ≡ true
  is : due_of now r.key r.owner ≡ record { key = r.key; connection = connection } ∷ []

late_cases : (now : ℕ) (r : Request) (o : Option Owner) → r.owner ≡ o → ((late now r.owner ≡ false) × (due_of now r.key r.owner ≡ [])) ⊎ Late now r
late_cases now r none e = inl (ap (late now) e, ap (due_of now r.key) e)
late_cases now r (some o) e = elim (test (leb o.deadline now)) [
  | inl l ↦ inr (record {
    connection = o.connection;
    owns = ap (owner_is o.connection) e ∙ eq-eqb o.connection o.connection refl;
    num = ap owner_num e;
    over = ap (late now) e ∙ l;
    is = ap (due_of now r.key) e ∙ rw l refl;
  })
  | inr l ↦ inl (ap (late now) e ∙ l, ap (due_of now r.key) e ∙ rw l refl)
]

-- nobody is due
none_late : (now : ℕ) (t : Table) → due now t ≡ [] → All (λ (r : Request). late now r.owner ≡ false) t
unfolding due
none_late now [] e = tt
none_late now (r ∷ t) e = elim (late_cases now r r.owner refl) [
  | inl z ↦ (z.0, none_late now t (sym (ap (λ (l : List Due). l ++ due now t) z.1) ∙ e))
  | inr z ↦
      let y : ◌≡◌ {A = List Due} (record { key = r.key; connection = z.connection } ∷ due now t) [] = sym (ap (λ (l : List Due). l ++ due now t) z.is) ∙ e in
      let w : ◌≡◌ {A = ℕ} 0 1 = cc in absurd (omega arith)
]

module _ (now : ℕ) where
  due_kept : (r : Request) (cs : List Candidate) (t : Table) → r.owner ≡ none → due now (keep r cs t) ≡ due now t
  unfolding due keep
  due_kept r [] t e = refl
  due_kept r (c ∷ cs) t e = ap (λ (o : Option Owner). due_of now r.key o ++ due now t) e

  dropped_kept : (r : Request) (cs : List Candidate) (t : Table) → r.candidates ≡ cs → r.owner ≡ none → dropped_all now (keep r cs t) ≡ keep r cs (dropped_all now t)
  unfolding dropped_all keep
  dropped_kept r [] t h e = refl
  dropped_kept r (c ∷ cs) t h e =
      ap (λ (b : Bool). keep (if b then gone (owner_num r.owner) r else r) (if b then gone (owner_num r.owner) r else r).candidates (dropped_all now t)) (ap (late now) e)
      ∙ ap (λ (l : List Candidate). keep r l (dropped_all now t)) h

  -- d is the first that is due, and ds are behind it
  record First (lo : ℕ) (t : Table) (d : Due) (ds : List Due) : Type 0 where
    low : lo ≤ place d.key
    owns : owner_is d.connection (at d.key t).owner ≡ true
    behind : due now (change d.key (gone d.connection) t) ≡ ds
    dropped : dropped_all now (change d.key (gone d.connection) t) ≡ dropped_all now t

  first_due : (lo : ℕ) (t : Table) (d : Due) (ds : List Due) → Ordered lo t → due now t ≡ d ∷ ds → First lo t d ds
  unfolding due dropped_all
  first_due lo [] d ds o e = let z : ◌≡◌ {A = ℕ} 0 1 = cc in absurd (omega arith)
  first_due lo (r ∷ t) d ds o e = elim (late_cases now r r.owner refl) [
    | inl z ↦
        let g = first_due (suc (place r.key)) t d ds o.2 (sym (ap (λ (l : List Due). l ++ due now t) z.1) ∙ e) in
        let u = change d.key (gone d.connection) t in
        let later = change-later d.key (gone d.connection) r t (omega (arith, g.low)) in
        record {
          low = omega (arith, g.low, o.0);
          owns = ap (λ (q : Request). owner_is d.connection q.owner) (at_there d.key r t (λ y. omega (arith, g.low))) ∙ g.owns;
          behind = ap (due now) later ∙ ap (λ (l : List Due). l ++ due now u) z.1 ∙ g.behind;
          dropped = ap (dropped_all now) later ∙ ap (keep (dropped_in now r) (dropped_in now r).candidates) g.dropped;
        }
    | inr z ↦
        let n = z.connection in
        let y : ◌≡◌ {A = List Due} (record { key = r.key; connection = n } ∷ due now t) (d ∷ ds) = sym (ap (λ (l : List Due). l ++ due now t) z.is) ∙ e in
        let k : ◌≡◌ {A = Due} (record { key = r.key; connection = n }) d = cc in
        let q : due now t ≡ ds = cc in
        let here = change_first r.key (gone n) r t refl in
        subst (λ (x : Due). First lo (r ∷ t) x ds) k (record {
          low = o.0;
          owns = ap (λ (x : Request). owner_is n x.owner) (at_here r.key r t refl) ∙ z.owns;
          behind = ap (due now) here ∙ due_kept (gone n r) (gone n r).candidates t refl ∙ q;
          dropped =
              ap (dropped_all now) here ∙ dropped_kept (gone n r) (gone n r).candidates t refl refl
              ∙ sym (ap (λ (b : Bool). keep (if b then gone (owner_num r.owner) r else r) (if b then gone (owner_num r.owner) r else r).candidates (dropped_all now t)) z.over
              ∙ ap (λ (i : ℕ). keep (gone i r) (gone i r).candidates (dropped_all now t)) z.num);
        })
  ]

-- ---- all of them

record AtOnce (m : Limits) (now : ℕ) (ds : List Due) (t : Table) : Type 0 where
  is : expire m now ds t ≡ record { keys = []; table = dropped_all now (ready_each now ds t) }
  unplaced : Unplaced (dropped_all now (ready_each now ds t))

at_once : {m : Limits} {Q : ℕ} (now : ℕ) (ds : List Due) (t : Table) → now < word → Bounded m Q t → Unplaced t → Each DueTyped ds → due now t ≡ ds → AtOnce m now ds t
unfolding expire ready_each announce_parents dedup parents_from
at_once now [] t w b p a e =
    let same = sym (dropped_timely now t b.filled (none_late now t e)) in
    record { is = ap (λ (x : Table). record { keys = []; table = x }) same; unplaced = subst Unplaced same p }
at_once {m} {Q} now (d ∷ ds) t w b p a e =
    let k = d.key in
    let n = d.connection in
    let s = a.0.key in
    let u = readied_both now k t in
    let v = ready_each now ds u in
    let bu : Bounded m Q u = bounded_both now w k s b in
    let bv : Bounded m Q v = bounded_each now w ds u a.1 bu in
    let eu : due now u ≡ d ∷ ds = due_both now w k s b ∙ e in
    let ev : due now v ≡ d ∷ ds = due_each now w ds u a.1 bu ∙ eu in
    let free = all_at Free k t refl p in
    let own = (first_due now 0 t d ds b.ordered e).owns in
    let fails : (failed k n now t).table ≡ change k (gone n) u = failed_is now k n s b own (rw (own, calm (at k t) free) refl) in
    let rest = at_once now ds (change k (gone n) u) w (subst (Bounded m Q) fails (bounded-failed k n now s w b)) (all_change Free k (gone n) 0 u bu.ordered refl (unplaced_both now w k s b p)) a.1
    (first_due now 0 u d ds bu.ordered eu).behind in
    let same : dropped_all now (ready_each now ds (change k (gone n) u)) ≡ dropped_all now v =
    ap (dropped_all now) (each_swap now w n k ds u s a.1 bu) ∙ (first_due now 0 v d ds bv.ordered ev).dropped in
    let step : List ℕ → Listed = λ ps.
    (let x = announce_parents m n now ps (failed k n now t).table in
    let more = expire m now ds x.table in
    record { keys = x.keys ++ more.keys; table = more.table }) in
    record {
      is = ap step (no-parents n (at k t) free) ∙ ap (expire m now ds) fails ∙ rest.is ∙ ap (λ (x : Table). record { keys = []; table = x }) same;
      unplaced = subst Unplaced same rest.unplaced;
    }

module _ {m : Limits} {Q : ℕ} (now : ℕ) (t : Table) (w : now < word) (b : Bounded m Q t) (p : Unplaced t) where
  once : AtOnce m now (due now t) t
  once = at_once now (due now t) t w b p (due-typed now 0 t b.ordered b.lawful) refl

  pub expired_at_once : expire m now (due now t) t ≡ record { keys = []; table = silenced now t }
  expired_at_once = once.is

  pub unplaced_after : Unplaced (silenced now t)
  unplaced_after = once.unplaced
