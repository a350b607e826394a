-- `listed_counts::fronts::owner_in` meets its contract.
use Prim.Native.Nat.{ℕ}
use mathlib.Core.Path.{sym, ap, ◌∙◌}
use mathlib.Core.Option.{Option}
use Rattle.std.specs.Prelude as Rust
use Rattle.reading.specs.declared.fields.Parsed.{Parsed}
use Rattle.listed_lines.specs.declared.parts.Owner.{Owner}
use Rattle.listed_lines.specs.Given.{owner_of, owner_at}
use Rattle.listed_counts.specs.Fronts.{owner_number}
use Rattle.listed_counts.proofs.FrontFields.{value_in, joined_in, owner-told}
use Rattle.listed_counts.proofs.fronts.owner_in.Goals as goal

-- what the reader's answer tells of the owner
abbrev told : Rust.Option (Parsed (Rust.Option Owner)) → Option ℕ
told r = owner_number (joined_in (value_in (owner_at r)))

abbrev there : Rust.Option Owner → Option ℕ
there o = owner_number (owner_of o)

pub returns-in_err-owner_at : goal.returns-in_err-owner_at
returns-in_err-owner_at c = rw c.from_residual.ensures (owner-told c.field_end-key.ensures _ c.owner_at.ensures (sym (ap told c.in_err-owner_at.was)))

pub returns-in_err-owner : goal.returns-in_err-owner
returns-in_err-owner c =
    rw c.from_residual-in_err-owner.ensures (owner-told c.field_end-key.ensures _ c.owner_at.ensures (sym (ap told c.in_ok-owner_at.was ∙ ap there c.in_err-owner.was)))

pub returns : goal.returns
returns c = owner-told c.field_end-key.ensures _ c.owner_at.ensures (sym (ap told c.in_ok-owner_at.was ∙ ap there c.in_ok-owner.was))
