-- What the test of the rows decides, in the words of FlatSound.
use Rattle.std.specs.Prelude.{ℕ, ◌/◌, ◌%◌, ◌≤◌, ◌<◌, ◌≡◌, List}
use Rattle.ident.specs.declared.Kind.{Kind}
use Rattle.ident.specs.declared.Kind.TheVariants.{Txid, Wtxid}
use Rattle.ident.specs.Number.{place, kind_is}
use Rattle.regions.specs.declared.Row.{Row}
use Rattle.machine.specs.Typed.{Each}
use Rattle.store.specs.Flat.{own_bit}
use Rattle.store.specs.Gather.{key_at}
use Rattle.store.specs.FlatSound.{mark_bit, RowFits, Ascending, SameMarks}

-- what RowFits says beyond the ranges, which words of bytes have by themselves
pub record RowPlain (r : Row) : Type 0 where
  pub positive : 0 < r.conn
  pub idle : own_bit r ≡ 0 → r.deadline ≡ 0
  pub bits : r.bits < 32
  pub plain : r.bits % 2 ≡ 1 → (r.bits / 2 % 2 ≡ 0) × (mark_bit r ≡ 0)

-- ---- a row in its half

pub record KindPlain (k : Kind) (b : ℕ) : Type 0 where
  pub kind : kind_is (b % 2) ≡ k
  pub plain : b % 2 ≡ 1 → b / 2 % 2 ≡ 0

-- a mark that rows of the kind can have
abbrev pub MarkFits : Kind → ℕ → Type 0
MarkFits Txid m = m < 2
MarkFits Wtxid m = m ≡ 0

-- the mark that the rows of r's request have
abbrev pub mark_for : Kind → Row → ℕ
mark_for Txid r = mark_bit r
mark_for Wtxid r = 0

pub record RowAs (k : Kind) (m : ℕ) (r : Row) : Type 0 where
  pub plain : RowPlain r
  pub kind : kind_is (r.bits % 2) ≡ k
  pub mark : mark_bit r ≡ m

-- ---- neighbours

-- r may stand right behind p
pub record Follows (p r : Row) : Type 0 where
  pub order : place (key_at p) ≤ place (key_at r)
  pub mark : place (key_at p) ≡ place (key_at r) → mark_bit p ≡ mark_bit r

pub record RowsSound (rs : List Row) : Type 0 where
  pub fit : Each RowFits rs
  pub ascending : Ascending 0 rs
  pub marks : SameMarks rs
