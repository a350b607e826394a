use native.Mathlib.Omega.{arith}
use mathlib.Core.Path.{sym, ap, ◌∙◌}
use mathlib.Core.Bool.{not}
use lib.ListN.{length}
use Rattle.ident.specs.Words.{hash_num, key_num}
use Rattle.machine.specs.Table.{at}
use Rattle.package_stages.proofs.Read.{staged}
use Rattle.failing.proofs.Copying.{no-hashes, others-parents, placeless, must-hold, its-parents}
use Rattle.failing.proofs.Releasing.{owner-is}
use Rattle.failing.proofs.parents.parents_for.Goals as goal

pub returns-then-not-is_owned_by : goal.returns-then-not-is_owned_by
returns-then-not-is_owned_by c = (
  omega (arith, ap length no-hashes),
  λ st s w.
      let x = c.request_at-r.ensures.is st s w in
      others-parents (at (key_num c.args.k) st.table) c.args.n.number (sym c.if-not-is_owned_by.true ∙ owner-is x c.args.n.number c.is_owned_by.ensures),
)

pub returns-then-is_none : goal.returns-then-is_none
returns-then-is_none c = (
  omega (arith, ap length no-hashes),
  λ st s w.
      let x = c.request_at-r.ensures.is st s w in
      placeless (at (key_num c.args.k) st.table) c.args.n.number (sym (staged x) ∙ c.is_none.ensures ∙ ap not c.if-is_none.true),
)

pub returns-in-Ok : goal.returns-in-Ok
returns-in-Ok c = (
  c.copy_parents.ensures.0,
  λ st s w.
      let x = c.request_at-r.ensures.is st s w in
      let z = c.in-Ok.ensures in
      let h = sym (staged x) ∙ c.is_none.ensures ∙ ap not c.if-is_none.false in
      its-parents st s (key_num c.args.k) z.small h c.args.n.number (sym c.if-not-is_owned_by.false ∙ owner-is x c.args.n.number c.is_owned_by.ensures)
      (c.copy_parents.ensures.1 (hash_num c.args.k.hash) z.small st s w (z.is st s w)),
)

pub returns-in-Err : goal.returns-in-Err
returns-in-Err c = (
  omega (arith, ap length no-hashes),
  λ st s w.
      let x = c.request_at-r.ensures.is st s w in
      let z = c.in-Err.ensures in
      let h = sym (staged x) ∙ c.is_none.ensures ∙ ap not c.if-is_none.false in
      absurd (must-hold st s (key_num c.args.k) z.small h (z.is st s w)),
)
