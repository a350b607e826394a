-- `apart::set_apart` meets its contract.
use mathlib.Core.Path.{refl, ap, ◌∙◌}
use native.Mathlib.Omega.{arith}
use Rattle.store.proofs.Frame.{sizes}
use Rattle.apart.specs.Apart.{bare_bytes}
use Rattle.apart.proofs.Parting.{set_out, room-enough}
use borrow.Author.Rules.{rules}
use Rattle.apart.proofs.set_apart.Goals as goal

pub slice_bounds-copy_from_slice-end-2 : goal.slice_bounds-copy_from_slice-end-2
slice_bounds-copy_from_slice-end-2 c = let l = room-enough c.requires.0 c.requires.1 in omega (arith, l)

pub returns : goal.returns
returns c = λ st s o. set_out c.args.s.now st s o (c.requires.1 ∙ ap bare_bytes (sizes o).limit) refl _ c.copy_from_slice.ensures.after c.clear.auto.s c.clear.ensures refl (search rules)
    c.put.ensures.word c.put-2.ensures.word
