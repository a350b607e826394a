use mathlib.Core.Path.{sym, ◌∙◌}
use native.Mathlib.Omega.{arith}
use Rattle.ident.specs.Number.{wtxid}
use Rattle.ident.specs.Words.{hash_num, key_num}
use Rattle.machine.specs.State.{limits_of}
use Rattle.machine.specs.Package.{failed_with_parents}
use Rattle.claims.proofs.Listing.{nothing_on, fails-nothing, fails_few, owner-reads}
use Rattle.claims.proofs.waiting.fail_claim.Goals as goal

pub returns-then-not-is_owned_by : goal.returns-then-not-is_owned_by
returns-then-not-is_owned_by c = nothing_on _ c.args.c
    (λ m t. failed_with_parents m (wtxid (hash_num c.args.h))
    c.args.n.number c.args.clock t) (λ st s w. fails-nothing
    (limits_of st) (wtxid (hash_num c.args.h)) c.args.n.number
    c.args.clock st.table (sym (owner-reads c.args.n.number st.table c.from-k.ensures
    (c.request_at-q.ensures.is st s w) c.is_owned_by.ensures) ∙ c.if-not-is_owned_by.true))

pub overflow_add-result : goal.overflow_add-result
overflow_add-result c = omega (
  arith,
  c.requires.3,
  c.failed_with_parents-r.ensures.count
      c.requires.0.state
      c.requires.0.sound
      c.requires.0.writes,
  fails_few (limits_of c.requires.0.state) (key_num
      c.from-k.result)
      c.args.n.number
      c.args.clock
      c.requires.0.state
      c.requires.0.sound,
)
