-- The ranges of a declared entry's fields.
use Prim.Native.Nat.{◌<◌}
use denote.Laws.{Is}
use denote.Struct.Laws as LL
use Rattle.ident.specs.declared.Item.{Item}
use Rattle.ident.specs.contracts.Item as I
use Rattle.ident.proofs.Item.TheLaws as I'
use Rattle.ident.specs.Number.{top}
use Rattle.ident.specs.Words.{hash_num}
use Rattle.ident.proofs.Words.{Four, hash-four, key-four, hash_below}
use Rattle.requests.specs.declared.Candidate.{Candidate}
use Rattle.requests.specs.contracts.Candidate as C
use Rattle.requests.proofs.Candidate.TheLaws as C'
use Rattle.claiming.specs.declared.Entry.{Entry}
use Rattle.claiming.specs.contracts.Entry as E
use Rattle.claiming.proofs.Entry.TheLaws as E'

item-four : (i : Item) → Is I.the_row i (LL.vals I.the_type I'.the_laws i) → Four i.hash
item-four i g = hash-four i.hash (LL.owed I.the_type I'.the_laws i _ g).1.0

candidate-four : (c : Candidate) → Is C.the_row c (LL.vals C.the_type C'.the_laws c) → Four c.item.hash
candidate-four c g = item-four c.item (LL.owed C.the_type C'.the_laws c _ g).1.0

module _ (e : Entry) (g : Is E.the_row e (LL.vals E.the_type E'.the_laws e)) where
  pub key_fours : Four e.key.hash
  key_fours = key-four e.key (LL.owed E.the_type E'.the_laws e _ g).0

  pub item_fours : Four e.candidate.item.hash
  item_fours = candidate-four e.candidate (LL.owed E.the_type E'.the_laws e _ g).1.0

  pub key_below : hash_num e.key.hash < top
  key_below = hash_below e.key.hash key_fours
