-- What a call is given: a connection that is a peer, a time, and items or offers of bytes.
use Prim.Native.Nat.{ℕ, ◌<◌}
use mathlib.Core.List.{List}
use Rattle.ident.specs.Number.{Item, top}
use Rattle.ident.specs.declared.connection.Connection.{Connection}
use Rattle.machine.specs.Limits.{word}
use Rattle.machine.specs.Typed.{Each, OfferTyped}
use Rattle.machine.proofs.Fail.{Peer}
use Rattle.lent_lists.specs.Items.{items_in, offers_in}
use Rattle.lent_lists.proofs.Inventory.{Low, items-fit, offers-fit}
use Rattle.wrapping.specs.declared.offering.Batch.{Batch}

pub peer_of : (n : Connection) → n.number < word → Peer n.number
peer_of n h = record { positive = n.positive; small = h }

-- a peer, a time of one word, and items whose hashes have 256 bits
pub record Asked (n now : ℕ) (l : List Item) : Type 0 where
  pub peer : Peer n
  pub late : now < word
  pub hashed : Each (λ (i : Item). i.hash < top) l

pub asked_of : (n : Connection) (now : ℕ) (items : List ℕ) → n.number < word → now < word → Low items → Asked n.number now (items_in items)
asked_of n now items h g p = record { peer = peer_of n h; late = g; hashed = items-fit items p }

-- the offers of a batch
pub batch_typed : (b : Batch) → Each OfferTyped (offers_in b.items.now b.priorities.now)
batch_typed b = offers-fit _ _ b.bytes.0 b.bytes.1
