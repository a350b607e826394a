-- The number by which rows are searched is their key's place in the order of keys.
use mathlib.Core.Path.{◌≡◌}
use Rattle.ident.specs.Number.{place}
use Rattle.regions.specs.declared.Row.{Row}
use Rattle.regions.specs.Rows.{key_number, key_of}
use Rattle.regions.proofs.Hashes.{key_place}
use Rattle.store.specs.Gather.{key_at}

pub row_number : (r : Row) → key_number (key_of r) ≡ place (key_at r)
unfolding key_at
row_number r = key_place (key_of r)
