use mathlib.Core.Path.{sym, ◌∙◌}
use native.Mathlib.Omega.{arith}
use Rattle.ident.specs.Words.{key_num}
use Rattle.leaving.proofs.Turning.{keys_inside, turn_rests, still_kept, drop-asks, turn_owned}
use Rattle.leaving.proofs.take_turn.Goals as goal

pub key_at-k-requires : goal.key_at-k-requires
key_at-k-requires c = omega (arith, keys_inside c.requires.0, c.requires.1)

pub returns-then-is_some : goal.returns-then-is_some
returns-then-is_some c = λ st u₀ g.
    turn_rests g (omega (arith, c.well_formed.1.1.0)) (key_num c.key_at-k.result) c.requires.1 c.key_at-k.ensures c.waits-next.ensures
    (sym c.is_some.ensures ∙ c.if-is_some.true)

pub cut_listed-requires : goal.cut_listed-requires
cut_listed-requires c = (
  still_kept c.requires.0.going (omega (arith, c.well_formed.1.1.0)) (key_num c.key_at-k.result) c.requires.1 c.key_at-k.ensures c.waits-next.ensures
      (sym c.is_some.ensures ∙ c.if-is_some.false),
  omega (arith, keys_inside c.requires.0, c.requires.1),
)

pub overflow_mul-x : goal.overflow_mul-x
overflow_mul-x c = omega (arith, keys_inside c.requires.0)

pub slice_bounds-drop_owned-count : goal.slice_bounds-drop_owned-count
slice_bounds-drop_owned-count c = omega (arith, keys_inside c.requires.0)

pub slice_bounds-drop_owned-start : goal.slice_bounds-drop_owned-start
slice_bounds-drop_owned-start c = omega (arith, keys_inside c.requires.0)

pub drop_owned-parents-requires : goal.drop_owned-parents-requires
drop_owned-parents-requires c =
    drop-asks c.requires.0.going (omega (arith, c.well_formed.1.1.0)) (key_num c.key_at-k.result) c.requires.1 c.key_at-k.ensures c.waits-next.ensures
    (sym c.is_some.ensures ∙ c.if-is_some.false) c.cut_listed.ensures

pub returns : goal.returns
returns c = λ st u₀ g.
    turn_owned g (omega (arith, c.well_formed.1.1.0)) (key_num c.key_at-k.result) c.requires.1 c.key_at-k.ensures c.waits-next.ensures
    (sym c.is_some.ensures ∙ c.if-is_some.false) c.cut_listed.ensures c.drop_owned-parents.ensures
