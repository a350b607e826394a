-- What the contracts of the scan for a victim say: the machine's entries, as rows have them.
use Rattle.std.specs.Prelude as std
use Rattle.std.specs.Prelude.{Some, None, ℕ, ◌-◌, ◌/◌, ◌%◌, Bool, true, false, ◌||◌, List, [], ◌∷◌, ltb, eqb, take, drop, if◌then◌else◌}
use Rattle.std.proofs.Math.Option.{Option, none, some}
use Rattle.ident.specs.Number.{place}
use Rattle.regions.specs.declared.Row.{Row}
use Rattle.machine.specs.State.{Entry}
use Rattle.machine.specs.Announce.{after}
use Rattle.store.specs.Gather.{key_at, candidate_at}

-- the candidate of a row, with its key
abbrev pub entry_at : Row → Entry
entry_at r = record { key = key_at r; candidate = candidate_at r }

-- what a scan has found
abbrev pub found : std.Option Row → Option Entry
found None = none
found (Some r) = some (entry_at r)

-- a row has a lower priority than what has been found
abbrev pub is_lower : Row → std.Option Row → Bool
is_lower r None = false
is_lower r (Some best) = ltb r.prio best.prio

-- a comes after b by "(key, connection)"
abbrev pub key_after : Row → Row → Bool
key_after a b =
    if ltb (place (key_at b)) (place (key_at a)) then true
    else if ltb (place (key_at a)) (place (key_at b)) then false
    else ltb b.conn a.conn

-- the greater of what has been found and of one entry more
abbrev pub greater : Option Entry → Entry → Entry
greater none b = b
greater (some a) b = if after b a then b else a

-- the bits of a row whose candidate is preferred, or owns its request
abbrev pub protected : ℕ → Bool
protected bits = eqb (bits / 4 % 2) 1 || eqb (bits / 8 % 2) 1

-- of one row more, if it is "unpreferred .. not owning"
abbrev pub or_row : Option Entry → Row → Option Entry
or_row o r = if protected r.bits then o else some (greater o (entry_at r))

-- of a list of rows
unfoldable pub greatest_over : Option Entry → List Row → Option Entry
greatest_over o [] = o
greatest_over o (r ∷ rs) = greatest_over (or_row o r) rs

-- the rows from .. to
abbrev pub part : ℕ → ℕ → List Row → List Row
part from to rs = take (to - from) (drop from rs)
