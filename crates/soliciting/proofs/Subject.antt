-- The subject of a package call, a wtxid: its number is that of a hash.
use Prim.Native.Nat.{◌<◌}
use denote.Laws.{Is}
use denote.Struct.Laws as LL
use Rattle.ident.specs.declared.Wtxid.{Wtxid}
use Rattle.ident.specs.Number.{top}
use Rattle.ident.specs.Words.{hash_num}
use Rattle.ident.proofs.Words.{hash-four, hash_below}
use Rattle.ident.specs.contracts.Wtxid as W
use Rattle.ident.proofs.Wtxid.TheLaws as W'

pub subject_below : (w : Wtxid) → Is W.the_row w (LL.vals W.the_type W'.the_laws w) → hash_num w.0 < top
subject_below w g = hash_below w.0 (hash-four w.0 (LL.owed W.the_type W'.the_laws w _ g).0)
