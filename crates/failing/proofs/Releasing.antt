-- Owner and stage of a request, from what is read of it.
use Prim.Native.Nat.{ℕ, ◌≤◌}
use mathlib.Core.Path.{◌≡◌, refl, sym, ap, ◌∙◌}
use mathlib.Core.Bool.{Bool, true, false}
use mathlib.Core.List.{List}
use mathlib.Core.Option.{Option, none, some}
use lib.Dec.{eqb}
use borrow.Author.Tests.{eq-eqb}
use Rattle.std.specs.Option.{option_eq}
use Rattle.std.specs.Prelude.{Some, None}
use Rattle.ident.specs.Number.{Key}
use Rattle.machine.specs.State.{Package, Request, owner_is, enqueued_in}
use Rattle.machine.specs.Table.{at}
use Rattle.machine.proofs.Table.{lawful_at}
use Rattle.machine.proofs.Fail.{owner-peer}
use Rattle.store.specs.Shown.{Kept}
use Rattle.requests.specs.Changes.{Tells}
use Rattle.package_stages.specs.contracts.StagePartialEq.TheImpl.{eq-value}
use Rattle.package_stages.specs.declared.Owner.{Owner as OwnerRead}
use Rattle.package_stages.specs.declared.Request.{Request as Read}
use Rattle.package_stages.specs.declared.Stage.TheVariants.{Enqueued}
use Rattle.package_stages.specs.Changes.{owner_as, stage_of, RequestOf}
use Rattle.package_stages.proofs.Read.{stage-is}

pub stage_read : (i : Bool) (p : Option Package) → eqb (stage_of i p) 3 ≡ enqueued_in p
stage_read i (some p) = go p.enqueued
  where
    go : (e : Bool) → eqb (stage_of i (some (record { combined = p.combined; wtxids = p.wtxids; enqueued = e }))) 3 ≡ e
    go true = refl
    go false = refl
stage_read true none = refl
stage_read false none = refl

module _ {q : Request} {r : Read} (x : RequestOf q r) where
  pub owner-some : {o : OwnerRead} → r.owner ≡ Some o → q.owner ≡ some (record { connection = o.connection; deadline = o.deadline })
  owner-some e = sym x.owner ∙ ap owner_as e

  pub owner-none : r.owner ≡ None → q.owner ≡ none
  owner-none e = sym x.owner ∙ ap owner_as e

  pub owner-named : {o : OwnerRead} → r.owner ≡ Some o → owner_is o.connection q.owner ≡ true
  owner-named {o} e = rw (owner-some e) (eq-eqb o.connection o.connection refl)

module _ {q : Request} {r : Read} (x : RequestOf q r) {b : Bool} where
  pub owner-is : (n : ℕ) → b ≡ owner_is n (owner_as r.owner) → b ≡ owner_is n q.owner
  owner-is n e = e ∙ ap (owner_is n) x.owner

  pub enqueued-is : b ≡ option_eq eq-value.it r.stage (Some Enqueued) → b ≡ enqueued_in q.«package»
  enqueued-is e = e ∙ stage-is x Enqueued ∙ stage_read q.info q.«package»

-- an owner that kept bytes name is no 0
pub named_positive : {b : List ℕ} (k : Key) {r : Read} → Tells b (λ t. RequestOf (at k t) r) → Kept b → {o : OwnerRead} → r.owner ≡ Some o → 1 ≤ o.connection
named_positive k x c {o} z = (owner-peer o.connection (at k c.state.table) (lawful_at k c.state.table c.sound.bounded.lawful) (owner-named (x c.state c.sound c.writes) z)).positive
