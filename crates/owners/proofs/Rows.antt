-- Rows and the owners that they name: one row, rows one behind the other, and rows above a hash.
use Prim.Native.Nat.{ℕ, ◌+◌, ◌≤◌, ◌<◌}
use mathlib.Core.Path.{◌≡◌, refl, ap, ◌∙◌}
use mathlib.Core.Logic.{inl, inr}
use mathlib.Core.List.{List, [], ◌∷◌, ◌++◌}
use mathlib.Core.Option.{Option, none, some}
use native.Mathlib.Omega.{arith}
use borrow.Author.Tests.{le-leb, lt-leb, ne_eqb}
use Rattle.std.specs.Prelude.{if◌then◌else◌}
use Rattle.regions.specs.declared.Row.{Row}
use Rattle.regions.specs.Rows.{quad_number}
use Rattle.machine.specs.Table.{keys, one}
use Rattle.machine.specs.Owners.{Holding, or_holding, keys_up_to}
use Rattle.machine.proofs.Tests.{test}
use Rattle.store.specs.Gather.{key_at, gather}
use Rattle.sweeping.specs.Batches.{last_row}
use Rattle.sweeping.proofs.Rounds.{keys_step}
use Rattle.owners.specs.Walk.{row_hash, row_holding, holding_over, Rises}

-- ---- answers one behind the other

pub or_none : (o : Option Holding) → or_holding o none ≡ o
or_none none = refl
or_none (some a) = refl

pub or_assoc : (a b c : Option Holding) → or_holding a (or_holding b c) ≡ or_holding (or_holding a b) c
or_assoc none b c = refl
or_assoc (some a) b c = refl

pub over_append : (h : ℕ) (a b : List Row) → holding_over h (a ++ b) ≡ or_holding (holding_over h a) (holding_over h b)
unfolding holding_over
over_append h [] b = refl
over_append h (r ∷ a) b = ap (or_holding (row_holding h r)) (over_append h a b) ∙ or_assoc (row_holding h r) (holding_over h a) (holding_over h b)

-- ---- one row

pub hash_is : (r : Row) → row_hash r ≡ quad_number r.hash
unfolding key_at
hash_is r = refl

pub row_other : (h : ℕ) (r : Row) → (row_hash r ≡ h → ⊥) → row_holding h r ≡ none
row_other h r e = rw (ne_eqb (row_hash r) h e)

-- a row whose hash is not above h, in front of others: no hash above h is missed, and its key is counted where it ends
pub over_lower : (h g : ℕ) (r : Row) (rs : List Row) → row_hash r ≤ h → h < g → holding_over g (r ∷ rs) ≡ holding_over g rs
unfolding holding_over
over_lower h g r rs l m = rw (row_other g r (λ e. omega (arith, l)))

pub up_lower : (g : ℕ) (r : Row) (rs : List Row) → row_hash r ≤ g → keys_up_to g (keys (gather (r ∷ rs))) ≡ one (last_row r rs) + keys_up_to g (keys (gather rs))
unfolding keys_up_to
up_lower g r rs l = rw (keys_step r rs)
    (elim (test (last_row r rs)) [ inl e ↦ rw (e, le-leb (row_hash r) g l) | inr e ↦ rw e (omega arith) ])

-- ---- rows above a hash

pub rises_from : (lo lo' : ℕ) (rs : List Row) → lo' ≤ lo → Rises lo rs → Rises lo' rs
rises_from lo lo' [] h a = tt
rises_from lo lo' (r ∷ rs) h a = (omega (arith, a.0), a.1)

pub over_above : (h lo : ℕ) (rs : List Row) → h < lo → Rises lo rs → holding_over h rs ≡ none
unfolding holding_over
over_above h lo [] l a = refl
over_above h lo (r ∷ rs) l a = rw (row_other h r (λ e. omega (arith, a.0))) (over_above h (row_hash r) rs (omega (arith, a.0)) a.1)

pub up_above : (h lo : ℕ) (rs : List Row) → h < lo → Rises lo rs → keys_up_to h (keys (gather rs)) ≡ 0
unfolding keys_up_to gather keys
up_above h lo [] l a = refl
up_above h lo (r ∷ rs) l a =
    let rest = up_above h (row_hash r) rs (omega (arith, a.0)) a.1 in
    keys-up ∙ elim (test (last_row r rs)) [ inl e ↦ rw (e, lt-leb (row_hash r) h (omega (arith, a.0))) (omega (arith, rest)) | inr e ↦ rw e rest ]
  where
    keys-up : keys_up_to h (keys (gather (r ∷ rs))) ≡ keys_up_to h (if last_row r rs then key_at r ∷ keys (gather rs) else keys (gather rs))
    keys-up = ap (keys_up_to h) (keys_step r rs)
