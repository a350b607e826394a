use native.Mathlib.Omega.{arith}
use Prim.Native.Nat.{ℕ, ◌+◌, ◌*◌, ◌/◌, ◌%◌}
use mathlib.Core.Path.{◌≡◌, sym, ap, ◌∙◌}
use Rattle.regions.specs.Rows.{quad_number, quad_of}
use Rattle.sound.specs.Places.{fold_of, slot_count}
use Rattle.store.proofs.Quads.{quad-number}
use Rattle.sound.proofs.place.slot.Goals as goal

pub returns : goal.returns
returns c =
    let f : c.fold-a.result ≡ fold_of (quad_of (quad_number c.args.h)) = c.fold-a.ensures ∙
    ap fold_of (sym (quad-number c.args.h (record { w0 = omega arith; w1 = omega arith; w2 = omega arith; w3 = omega arith }))) in
    (ap (λ (x : ℕ). (x % 4294967296 + x / 4294967296) * 506952113 / 1048576 % slot_count) f, omega arith)
