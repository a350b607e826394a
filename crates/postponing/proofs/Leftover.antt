-- Where no candidate of the store can be evicted, none of the table can be, whatever waits and whoever is to go.
use Prim.Native.Nat.{ℕ}
use mathlib.Core.Path.{◌≡◌, refl, ap, ◌∙◌}
use mathlib.Core.Logic.{inl, inr}
use mathlib.Core.Bool.{true}
use mathlib.Core.List.{List, [], ◌∷◌, map}
use mathlib.Core.Option.{Option, none, some}
use native.Mathlib.Omega.{arith}
use lib.Dec.{eqb}
use borrow.Author.Tests.{eq-eqb}
use Rattle.machine.specs.State.{Candidate, Owner, Request, Table, State, on_table, ready_at, owner_is}
use Rattle.machine.specs.Announce.{without, victims, anywhere}
use Rattle.machine.specs.Sound.{All}
use Rattle.machine.specs.Typed.{Each}
use Rattle.machine.proofs.Change.{without_fewer}
use Rattle.machine.proofs.Tests.{test, never}
use Rattle.store.proofs.Counts.{DistinctIn, distinct_in}
use Rattle.requests.specs.Changes.{Tells}
use Rattle.gathering.specs.Waits.{pushes}
use Rattle.gathering.proofs.Elsewhere.{victims-pushes}
use Rattle.parenting.specs.Waiting.{keys_of}
use Rattle.parenting.specs.Displacing.{Spent}
use Rattle.parenting.proofs.Marking.{entries-preferred}
use Rattle.parenting.proofs.Spent.{victims-marks}
use Rattle.parenting.proofs.SpentStill.{Quiet, Stays, spent_all, all_spent, each_stays, stays_none, once_freed}
use Rattle.package_stages.specs.Changes.{owner_num}
use Rattle.postponing.specs.Silent.{late, gone, dropped_in, dropped_all}
use Rattle.postponing.specs.Pending.{Pending}
use Rattle.postponing.proofs.DroppedCounts.{all_dropped}

-- ---- one request

-- a ready time says nothing of who can be evicted
unready : (now : ℕ) (o : Option Owner) (cs : List Candidate) → Each (Stays o) (map (ready_at now) cs) → Each (Stays o) cs
unready now o [] a = tt
unready now o (c ∷ cs) a = (a.0, unready now o cs a.1)

quiet_gone : (r : Request) (w : Option Owner) → r.owner ≡ w → late 0 w ≡ true → Quiet r → DistinctIn r → Quiet (gone (owner_num w) r)
quiet_gone r none e l q d = never l
quiet_gone r (some o) e l q d =
    let n = o.connection in
    let own : owner_is n r.owner ≡ true = ap (owner_is n) e ∙ eq-eqb n n refl in
    stays_none (gone n r) (without n r.candidates) (unready 0 none (without n r.candidates) (once_freed n 0 r.owner r.candidates own (each_stays r r.candidates q) (d n)))

-- none of its candidates can be evicted, and each is of another connection
abbrev Still : Request → Type 0
Still r = Quiet r × DistinctIn r

still_in : (r : Request) → Still r → Still (dropped_in 0 r)
still_in r s = elim (test (late 0 r.owner)) [
  | inl l ↦ rw l (quiet_gone r r.owner refl l s.0 s.1, λ n. omega (arith, s.1 n, without_fewer (λ m. eqb m n) (owner_num r.owner) r.candidates))
  | inr l ↦ rw l s
]

both : (t : Table) → All Quiet t → All DistinctIn t → All Still t
both [] a d = tt
both (r ∷ t) a d = ((a.0, d.0), both t a.1 d.1)

first : (t : Table) → All Still t → All Quiet t
first [] a = tt
first (r ∷ t) a = (a.0.0, first t a.1)

-- ---- the table

spent_dropped : (t : Table) → All DistinctIn t → Spent t → Spent (dropped_all 0 t)
spent_dropped t d s = all_spent (dropped_all 0 t) (first (dropped_all 0 t) (all_dropped 0 Still t still_in (both t (spent_all t s) d)))

pub spent_pending : {b w : List ℕ} {d c : ℕ} {st : State} {t : Table} → Pending b w d c st t → Tells b Spent → Spent t
spent_pending {st = st} v s =
    let es = v.entries in
    let u = dropped_all 0 v.base in
    ap (victims anywhere) v.table ∙ victims-marks anywhere (keys_of es) (pushes es u) ∙ victims-pushes es u (entries-preferred es v.parental)
    ∙ spent_dropped v.base (distinct_in v.base v.sound.bounded.once) (s (on_table v.base st) v.sound v.writes)
