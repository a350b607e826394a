-- An entry as it is sent: the search among the witness connections, and the item.
use Prim.Native.Nat.{ℕ, zero, suc, ◌+◌, ◌<◌, ◌≤◌}
use mathlib.Core.Path.{◌≡◌, refl, sym, ap, ◌∙◌}
use mathlib.Core.Bool.{Bool, true, false, ◌&&◌, ◌||◌}
use mathlib.Core.List.{List, []}
use native.Mathlib.Numerals.{add-one}
use native.Mathlib.Omega.{arith}
use lib.Dec.{eqb}
use lib.ListN.{length, get_or, drop, drop_of_length-le}
use lib.Seq.{drop-cons}
use Rattle.std.specs.List.{list_any, range_with_len}
use Rattle.ident.specs.declared.ItemKind.{ItemKind}
use Rattle.ident.specs.declared.ItemKind.TheVariants.{Transaction, WitnessTransaction, WTx, Other}
use Rattle.std.specs.Prelude.{if◌then◌else◌}
use Rattle.ident.specs.Number.{Item}
use Rattle.machine.specs.State.{Entry, Table, with_item}
use Rattle.machine.specs.Table.{at}
use Rattle.machine.specs.Claim.{elem, witness_kind, witness_item, for_witness}
use Rattle.machine.proofs.Tests.{never}
use Rattle.sending.specs.Turned.{is_transaction}

-- ---- one of the list

elem_next : (n : ℕ) (ws : List ℕ) (i : ℕ) → i < length ws → elem n (drop i ws) ≡ (eqb (get_or ws i 0) n || elem n (drop (i + 1) ws))
unfolding elem
elem_next n ws i h = ap (elem n) (drop-cons ws i 0 h) ∙ ap (λ (j : ℕ). eqb (get_or ws i 0) n || elem n (drop j ws)) (sym (add-one i))

-- the i-th word is n
abbrev pub is_at : ℕ → List ℕ → ℕ → Bool
is_at n ws i = eqb (get_or ws i 0) n

elem_from : (n : ℕ) (ws : List ℕ) (k i : ℕ) → i + k ≡ length ws → list_any (is_at n ws) (range_with_len i k) ≡ elem n (drop i ws)
unfolding elem
elem_from n ws zero i h = let e : length ws ≤ i = omega arith in rw (drop_of_length-le ws e) refl
elem_from n ws (suc k) i h = ap (λ (x : Bool). eqb (get_or ws i 0) n || x) (elem_from n ws k (i + 1) (omega arith)) ∙ sym (elem_next n ws i (omega arith))

pub elem_by : (n : ℕ) (ws : List ℕ) (k : ℕ) → k ≡ length ws → list_any (is_at n ws) (range_with_len 0 k) ≡ elem n ws
elem_by n ws k h = elem_from n ws k 0 (omega arith)

-- what was looked up is known
pub looked_up : (ws : List ℕ) {n m : ℕ} {b : Bool} → m ≡ n → b ≡ elem n ws → b ≡ elem m ws
looked_up ws e f = rw e f

-- ---- the item

same_kind_lem : (k : ItemKind) → is_transaction k ≡ false → witness_kind k ≡ k
same_kind_lem Transaction e = never (sym e)
same_kind_lem WitnessTransaction e = refl
same_kind_lem WTx e = refl
same_kind_lem (Other n) e = refl

turned_kind : (k : ItemKind) → is_transaction k ≡ true → witness_kind k ≡ WitnessTransaction
turned_kind Transaction e = refl
turned_kind WitnessTransaction e = never e
turned_kind WTx e = never e
turned_kind (Other n) e = never e

module _ (ws : List ℕ) (t : Table) (a : Entry) where
  abbrev i : Item
  i = a.candidate.item

  abbrev is_listed : Bool
  is_listed = elem a.candidate.connection ws

  abbrev is_marked : Bool
  is_marked = (at a.key t).fallback

  abbrev sent : Item → Entry
  sent j = record { key = a.key; candidate = with_item j a.candidate }

  pub stays_other : is_transaction i.kind ≡ false → a ≡ for_witness ws t a
  unfolding for_witness
  stays_other e = ap sent (sym (same (is_listed && is_marked)))
    where
      same : (b : Bool) → (if b then witness_item i else i) ≡ i
      same true = ap (λ (k : ItemKind). record { kind = k; hash = i.hash }) (same_kind_lem i.kind e)
      same false = refl

  pub stays_unmarked : false ≡ is_marked → a ≡ for_witness ws t a
  unfolding for_witness
  stays_unmarked e = ap sent (sym (ap (λ (m : Bool). if is_listed && m then witness_item i else i) (sym e) ∙ same is_listed))
    where
      same : (b : Bool) → (if b && false then witness_item i else i) ≡ i
      same true = refl
      same false = refl

  pub stays_unlisted : false ≡ is_listed → a ≡ for_witness ws t a
  unfolding for_witness
  stays_unlisted e = ap sent (ap (λ (m : Bool). if m && is_marked then witness_item i else i) e)

  pub turns : true ≡ is_transaction i.kind → true ≡ is_marked → true ≡ is_listed → sent (record { kind = WitnessTransaction; hash = i.hash }) ≡ for_witness ws t a
  unfolding for_witness
  turns e f g =
      ap sent (ap (λ (k : ItemKind). record { kind = k; hash = i.hash }) (sym (turned_kind i.kind (sym e)))
      ∙ ap (λ (m : Bool). if true && m then witness_item i else i) f ∙ ap (λ (m : Bool). if m && is_marked then witness_item i else i) g)
