use mathlib.Core.Path.{refl, sym, ◌∙◌}
use Rattle.store.specs.Gather.{key_at}
use Rattle.owners.proofs.named_by.Goals as goal

pub returns-then-owns : goal.returns-then-owns
unfolding key_at
returns-then-owns c = rw (c.kind.ensures, sym c.owns.ensures ∙ c.if-owns.true) refl
