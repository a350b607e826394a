-- Hashes and keys as rows have them, whatever declared value they come from.
use Rattle.std.specs.Prelude.{◌<◌, ◌≡◌}
use Rattle.ident.specs.declared.Hash.{Hash}
use Rattle.ident.specs.declared.Key.{Key}
use Rattle.ident.specs.Number.{top, place}
use Rattle.ident.specs.Words.{hash_num, key_num}
use Rattle.regions.specs.declared.Quad.{Quad}
use Rattle.regions.specs.declared.Key.{Key as RowKey}
use Rattle.regions.specs.Rows.{quad_of, key_number}

-- the four words of a hash
pub record Words (h : Hash) (r : Quad) : Type 0 where
  pub words_are : r ≡ quad_of (hash_num h)
  pub small : hash_num h < top

-- a key as rows have it
pub record KeyWords (k : Key) (r : RowKey) : Type 0 where
  pub hash : r.hash ≡ quad_of (hash_num k.hash)
  pub kind : r.kind ≡ k.kind
  pub number : key_number r ≡ place (key_num k)
  pub small : hash_num k.hash < top
