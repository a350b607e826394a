-- Where the rows of a hash stand, under either kind.
use Rattle.std.specs.Prelude.{ℕ, ◌+◌, ◌≤◌, ◌<◌, List}
use Rattle.ident.specs.declared.Kind.{Kind}
use Rattle.ident.specs.declared.Kind.TheVariants.{Txid, Wtxid}
use Rattle.ident.specs.Number.{top, place, txid, wtxid}
use Rattle.regions.specs.Order.{Sorted, Bound}
use Rattle.store.specs.Flat.{Flat}
use Rattle.store.specs.Image.{Shows}
use Rattle.store.specs.Shown.{rows_in, row_numbers}
use Rattle.store.specs.declared.rows.Window.{Window}
use Rattle.requests.specs.declared.windows.Windows.{Windows}
use Rattle.requests.specs.Changes.{Spans}

-- r is where the rows end whose key has the number x, if they begin at from
pub record EndsAt (b : List ℕ) (x from r : ℕ) : Type 0 where
  pub least : from ≤ r
  pub most : r ≤ rows_in b
  pub bound : (f : Flat) → Shows b f → Sorted (row_numbers f.rows) → Bound (row_numbers f.rows) x from → Bound (row_numbers f.rows) (x + 1) r

-- w are the rows of the two keys of the hash h
pub record Windowed (b : List ℕ) (h : ℕ) (w : Windows) : Type 0 where
  pub small : h < top
  pub by_txid : Spans b (place (txid h)) w.txid.from w.txid.to
  pub by_wtxid : Spans b (place (wtxid h)) w.wtxid.from w.wtxid.to

abbrev pub of_kind : Windows → Kind → Window
of_kind w Txid = w.txid
of_kind w Wtxid = w.wtxid
