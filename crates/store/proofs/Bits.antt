-- A row says what the candidate and the request say that it was made of.
use Prim.Native.Nat.{ℕ, ◌+◌, ◌*◌, ◌/◌, ◌%◌, ◌≤◌, ◌<◌}
use mathlib.Core.Path.{◌≡◌, refl, sym, ap, ◌∙◌}
use mathlib.Core.Logic.{inl, inr}
use mathlib.Core.Bool.{Bool, true, false}
use mathlib.Core.Option.{Option, none, some}
use native.Mathlib.Omega.{arith}
use lib.Dec.{eqb}
use borrow.Author.Tests.{eqb-true}
use Rattle.ident.specs.declared.Kind.{Kind}
use Rattle.ident.specs.declared.Kind.TheVariants.{Txid, Wtxid}
use Rattle.ident.specs.declared.ItemKind.{ItemKind}
use Rattle.ident.specs.declared.ItemKind.TheVariants.{Transaction, WitnessTransaction, WTx, Other}
use Rattle.std.specs.Prelude.{if◌then◌else◌}
use Rattle.ident.proofs.KindNumbers.{kind_most, kind_back}
use Rattle.ident.specs.Number.{Key, Item, key_of, kind_number}
use Rattle.machine.specs.State.{Candidate, Owner, Request, owner_is}
use Rattle.machine.specs.Table.{one}
use Rattle.machine.proofs.Tests.{test}
use Rattle.machine.proofs.Owning.{one_most}
use Rattle.store.specs.Flat.{witness_bit, bits_of, row_of, own_bit}
use Rattle.store.specs.Gather.{key_at, item_kind_as, candidate_at, owner_at}
use Rattle.store.specs.FlatSound.{owns, mark_bit}
use Rattle.regions.proofs.Order.{number_quad}

-- ---- each bit is 0 or 1

witness-most : (i : ItemKind) → witness_bit i ≤ 1
witness-most Transaction = omega arith
witness-most WitnessTransaction = omega arith
witness-most WTx = omega arith
witness-most (Other n) = omega arith

pub bit_one : (b : Bool) → eqb (one b) 1 ≡ b
bit_one true = refl
bit_one false = refl

-- five bits, read one by one
module _ (a b c d e : ℕ) (p : a ≤ 1) (q : b ≤ 1) (r : c ≤ 1) (s : d ≤ 1) (t : e ≤ 1) where
  bit0 : (a + 2 * b + 4 * c + 8 * d + 16 * e) % 2 ≡ a
  bit0 = omega arith

  bit1 : (a + 2 * b + 4 * c + 8 * d + 16 * e) / 2 % 2 ≡ b
  bit1 = omega arith

  bit2 : (a + 2 * b + 4 * c + 8 * d + 16 * e) / 4 % 2 ≡ c
  bit2 = omega arith

  bit3 : (a + 2 * b + 4 * c + 8 * d + 16 * e) / 8 % 2 ≡ d
  bit3 = omega arith

  bit4 : (a + 2 * b + 4 * c + 8 * d + 16 * e) / 16 % 2 ≡ e
  bit4 = omega arith

  all_bits : a + 2 * b + 4 * c + 8 * d + 16 * e < 32
  all_bits = omega arith

module _ (k : Kind) (i : ItemKind) (x y z : Bool) where
  pub bits-kind : bits_of k (witness_bit i) x y z % 2 ≡ kind_number k
  bits-kind = bit0 (kind_number k) (witness_bit i) (one x) (one y) (one z) (kind_most k) (witness-most i) (one_most x) (one_most y) (one_most z)

  pub bits-witness : bits_of k (witness_bit i) x y z / 2 % 2 ≡ witness_bit i
  bits-witness = bit1 (kind_number k) (witness_bit i) (one x) (one y) (one z) (kind_most k) (witness-most i) (one_most x) (one_most y) (one_most z)

  pub bits-preferred : bits_of k (witness_bit i) x y z / 4 % 2 ≡ one x
  bits-preferred = bit2 (kind_number k) (witness_bit i) (one x) (one y) (one z) (kind_most k) (witness-most i) (one_most x) (one_most y) (one_most z)

  pub bits-own : bits_of k (witness_bit i) x y z / 8 % 2 ≡ one y
  bits-own = bit3 (kind_number k) (witness_bit i) (one x) (one y) (one z) (kind_most k) (witness-most i) (one_most x) (one_most y) (one_most z)

  pub bits-mark : bits_of k (witness_bit i) x y z / 16 % 2 ≡ one z
  bits-mark = bit4 (kind_number k) (witness_bit i) (one x) (one y) (one z) (kind_most k) (witness-most i) (one_most x) (one_most y) (one_most z)

  pub bits_few : bits_of k (witness_bit i) x y z < 32
  bits_few = all_bits (kind_number k) (witness_bit i) (one x) (one y) (one z) (kind_most k) (witness-most i) (one_most x) (one_most y) (one_most z)

-- ---- a row, read

item_back : (k : Key) (i : Item) (t : ItemKind) → i.kind ≡ t → key_of i ≡ some k → item_kind_as k.kind (witness_bit t) ≡ t
item_back k i Transaction e f = let z : record { kind = Txid; hash = i.hash } ≡ k = cc in rw (← z)
item_back k i WitnessTransaction e f = let z : record { kind = Txid; hash = i.hash } ≡ k = cc in rw (← z)
item_back k i WTx e f = let z : record { kind = Wtxid; hash = i.hash } ≡ k = cc in rw (← z)
item_back k i (Other n) e f = let z : ◌≡◌ {A = ℕ} 0 1 = cc in absurd (omega arith)

item-hash : (k : Key) (i : Item) (t : ItemKind) → i.kind ≡ t → key_of i ≡ some k → k.hash ≡ i.hash
item-hash k i Transaction e f = let z : record { kind = Txid; hash = i.hash } ≡ k = cc in ap (λ (j : Key). j.hash) (sym z)
item-hash k i WitnessTransaction e f = let z : record { kind = Txid; hash = i.hash } ≡ k = cc in ap (λ (j : Key). j.hash) (sym z)
item-hash k i WTx e f = let z : record { kind = Wtxid; hash = i.hash } ≡ k = cc in ap (λ (j : Key). j.hash) (sym z)
item-hash k i (Other n) e f = let z : ◌≡◌ {A = ℕ} 0 1 = cc in absurd (omega arith)

module _ (r : Request) (c : Candidate) where
  pub key_row : key_at (row_of r c) ≡ r.key
  unfolding key_at row_of
  key_row = rw (number_quad r.key.hash, bits-kind r.key.kind c.item.kind c.preferred (owner_is c.connection r.owner) r.fallback, kind_back r.key.kind)

  pub own_row : own_bit (row_of r c) ≡ one (owner_is c.connection r.owner)
  unfolding row_of
  own_row = bits-own r.key.kind c.item.kind c.preferred (owner_is c.connection r.owner) r.fallback

  pub owns-row : owns (row_of r c) ≡ owner_is c.connection r.owner
  owns-row = ap (λ (n : ℕ). eqb n 1) own_row ∙ bit_one (owner_is c.connection r.owner)

  pub mark-row : mark_bit (row_of r c) ≡ one r.fallback
  unfolding row_of
  mark-row = bits-mark r.key.kind c.item.kind c.preferred (owner_is c.connection r.owner) r.fallback

  pub conn-row : (row_of r c).conn ≡ c.connection
  unfolding row_of
  conn-row = refl

  witness-row : (row_of r c).bits / 2 % 2 ≡ witness_bit c.item.kind
  unfolding row_of
  witness-row = bits-witness r.key.kind c.item.kind c.preferred (owner_is c.connection r.owner) r.fallback

  preferred-row : (row_of r c).bits / 4 % 2 ≡ one c.preferred
  unfolding row_of
  preferred-row = bits-preferred r.key.kind c.item.kind c.preferred (owner_is c.connection r.owner) r.fallback

  pub candidate-row : key_of c.item ≡ some r.key → candidate_at (row_of r c) ≡ c
  unfolding candidate_at row_of
  candidate-row e =
      rw (key_row, witness-row, preferred-row, item_back r.key c.item c.item.kind refl e, item-hash r.key c.item c.item.kind refl e, bit_one c.preferred)

  owner-fields : (w : Owner) → r.owner ≡ some w → eqb w.connection c.connection ≡ true → ◌≡◌ {A = Owner} (record { connection = (row_of r c).conn; deadline = (row_of r c).deadline }) w
  unfolding row_of
  owner-fields w e q = rw (e, q, eqb-true w.connection c.connection q)

  -- the row of the owner names it
  pub owner-row : (o : Option Owner) → owner_at (row_of r c) o ≡ (if owner_is c.connection r.owner then r.owner else o)
  owner-row o = rw owns-row (go r.owner refl)
    where
      go : (w : Option Owner) → r.owner ≡ w → (if owner_is c.connection w then some (record { connection = (row_of r c).conn; deadline = (row_of r c).deadline }) else o) ≡
          (if owner_is c.connection w then w else o)
      go none e = refl
      go (some w) e = elim (test (eqb w.connection c.connection)) [
        | inl q ↦ rw q (ap some (owner-fields w e q))
        | inr q ↦ rw q
      ]
