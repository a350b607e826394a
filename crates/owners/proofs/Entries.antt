-- Owners as words: whom a row names, and the first of two.
use Prim.Native.Nat.{ℕ, ◌<◌}
use mathlib.Core.Path.{◌≡◌, sym, ap, subst, ◌∙◌}
use mathlib.Core.List.{List}
use mathlib.Core.Option.{Option, none, some}
use native.Mathlib.Omega.{arith}
use lib.ListN.{get_or}
use borrow.Author.Tests.{eq-eqb}
use Rattle.std.specs.Prelude as rust
use Rattle.std.specs.Option.{option_or}
use Rattle.regions.specs.declared.Row.{Row}
use Rattle.machine.specs.Owners.{Holding, holding_as, or_holding}
use Rattle.machine.specs.Step.{holding_words}
use Rattle.store.specs.Gather.{key_at, owner_at}
use Rattle.owners.specs.declared.Owner.{Owner}
use Rattle.owners.specs.Walk.{owner_words, Says, row_hash, row_holding}
use Rattle.owners.proofs.Rows.{or_none, row_other}

-- ---- the first of two

tag_is : (v : rust.Option Owner) (o : Option Holding) → Says v o → get_or (owner_words v) 0 0 ≡ get_or (holding_words o) 0 0
tag_is v o s = ap (λ (l : List ℕ). get_or l 0 0) s

pub first_is : (a b : rust.Option Owner) (o p : Option Holding) → Says a o → Says b p → Says (option_or a b) (or_holding o p)
first_is rust.None b none p s q = q
first_is rust.None b (some x) p s q = absurd (omega (arith, tag_is rust.None (some x) s))
first_is (rust.Some v) b none p s q = absurd (omega (arith, tag_is (rust.Some v) none s))
first_is (rust.Some v) b (some x) p s q = s

-- ---- a row more

pub row_below : (h : ℕ) (r : Row) (v : rust.Option Owner) (o : Option Holding) → row_hash r < h → Says v o → Says v (or_holding o (row_holding h r))
row_below h r v o l s = subst (Says v) (sym (ap (or_holding o) (row_other h r (λ e. omega arith)) ∙ or_none o)) s

pub row_at : (h : ℕ) (r : Row) (w : rust.Option Owner) (o : Option Holding) → row_hash r ≡ h → Says w (or_holding o (holding_as (key_at r) (owner_at r none))) → Says w (or_holding o (row_holding h r))
row_at h r w o e s = rw (eq-eqb (row_hash r) h e) s
