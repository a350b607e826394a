-- announce_transactions on the bytes, item by item: what stands after the first i of the items offered.
use Prim.Native.Nat.{ℕ, ◌≤◌, ◌<◌}
use mathlib.Core.Path.{◌≡◌, refl, sym, ap, subst, ◌∙◌}
use mathlib.Core.Bool.{Bool}
use mathlib.Core.List.{List, []}
use native.Mathlib.Omega.{arith}
use lib.Dec.{leb}
use lib.ListN.{length, take, get_or}
use lib.Seq.{take_all}
use Rattle.ident.specs.contracts.ItemKindPartialEq.TheImpl.{eq-value}
use Rattle.ident.specs.declared.ItemKind.{ItemKind}
use Rattle.ident.specs.declared.ItemKind.TheVariants.{Transaction, WitnessTransaction, WTx, Other}
use Rattle.ident.specs.Number.{Item}
use Rattle.words.specs.Words.{words}
use Rattle.machine.specs.Limits.{Limits, max_in_flight}
use Rattle.machine.specs.State.{State, Table, limits_of, on_table}
use Rattle.machine.specs.Table.{owned_by}
use Rattle.machine.specs.Wrapper.{Offer, is_w_tx, offers_from, announce_transactions}
use Rattle.machine.specs.Sound.{Sound}
use Rattle.machine.specs.Typed.{Each, OfferTyped}
use Rattle.machine.proofs.Fail.{Peer}
use Rattle.machine.proofs.Wrapper.{bounded-announce_transactions}
use Rattle.machine.proofs.Kept.{sound-table}
use Rattle.store.specs.Image.{Writes}
use Rattle.store.specs.Shown.{Kept}
use Rattle.lent_lists.specs.Items.{items_in, offers_in}
use Rattle.lent_lists.proofs.Inventory.{paired_at}
use Rattle.requests.specs.Changes.{Tells}
use Rattle.wrapping.specs.declared.offering.Terms.{Terms}
use Rattle.claims.specs.Changes.{Becomes}
use Rattle.wrapping.specs.Batches.{between, announced, Announced}
use Rattle.wrapping.proofs.Gathered.{in-time}
use Rattle.wrapping.proofs.Parts.{take-between, each_take, offers_none, offers-append}

-- ---- how long an item waits

-- the code compares the kind
pub witness-kind : (k : ItemKind) → eq-value.it k WTx ≡ is_w_tx k
witness-kind Transaction = refl
witness-kind WitnessTransaction = refl
witness-kind WTx = refl
witness-kind (Other n) = refl

-- ---- the machine, one part more

transactions_none : (m : Limits) (n now : ℕ) (p v : Bool) (t : Table) → announce_transactions m n now p v [] t ≡ t
unfolding announce_transactions
transactions_none m n now p v t = offers_none m n now p v (leb max_in_flight (owned_by n t)) t

transactions_more : (m : Limits) (a : Terms) (os : List Offer) (i j : ℕ) (t : Table) → i ≤ j → a.late ≡ leb max_in_flight (owned_by a.connection.number t)
    → announced a (between i j os) m (announce_transactions m a.connection.number a.clock.time a.preferred a.source (take i os) t)
    ≡ announce_transactions m a.connection.number a.clock.time a.preferred a.source (take j os) t
unfolding announce_transactions
transactions_more m a os i j t h e =
    let n = a.connection.number in
    let f = leb max_in_flight (owned_by n t) in
    ap (λ (b : Bool). offers_from m n a.clock.time a.preferred a.source b (between i j os) (offers_from m n a.clock.time a.preferred a.source f (take i os) t)) e
    ∙ sym (offers-append m n a.clock.time a.preferred a.source f (take i os) (between i j os) t)
    ∙ ap (λ (l : List Offer). offers_from m n a.clock.time a.preferred a.source f l t) (take-between i j os h)

-- ---- the item and the priority at an index

pub offer_is : (b c : List ℕ) (k : ℕ) {i : Item} {p : ℕ} → k < length (offers_in b c) → ((d : Item) → i ≡ get_or (items_in b) k d) → p ≡ get_or (words c) k 0
    → (d : Offer) → record { item = i; priority = p } ≡ get_or (offers_in b c) k d
offer_is b c k h e q d = rw (e d.item, q) (paired_at (items_in b) (words c) k d h)

-- ---- the loop's invariant

-- the first i of the offers os are announced
pub record Batched (a : Terms) (os : List Offer) (s₀ s : List ℕ) (i : ℕ) : Type 0 where
  pub inside : i ≤ length os
  pub long : length s ≡ length s₀
  pub table : Becomes s₀ s (λ m t. announce_transactions m a.connection.number a.clock.time a.preferred a.source (take i os) t)

pub batched_start : (a : Terms) (os : List Offer) (s : List ℕ) → Batched a os s s 0
batched_start a os s = record {
  inside = omega arith;
  long = refl;
  table = λ st g w. rw (transactions_none (limits_of st) a.connection.number a.clock.time a.preferred a.source st.table) w;
}

module _ {a : Terms} {os : List Offer} {s₀ s : List ℕ} {i : ℕ} (b : Batched a os s₀ s i) where
  pub batched_done : i ≡ length os → Becomes s₀ s (λ m t. announce_transactions m a.connection.number a.clock.time a.preferred a.source os t)
  batched_done e = rw (e, take_all (length os) os (omega arith)) at b.table

  module _ (peer : Peer a.connection.number) (typed : Each OfferTyped os) where
    abbrev after : State → State
    after st = on_table (announce_transactions (limits_of st) a.connection.number a.clock.time a.preferred a.source (take i os) st.table) st

    after-sound : (st : State) → Sound st → Sound (after st)
    after-sound st g =
        sound-table g (bounded-announce_transactions a.connection.number a.clock.time a.preferred a.source (take i os) peer (in-time a) (each_take i os typed) g.bounded)

    pub batched_kept : Kept s₀ → Kept s
    batched_kept k = record { state = after k.state; sound = after-sound k.state k.sound; writes = b.table k.state k.sound k.writes }

    pub batched_more : {s₁ : List ℕ} {j : ℕ} → Tells s₀ (λ t. a.late ≡ leb max_in_flight (owned_by a.connection.number t)) → Announced s s₁ a os i j → length s₁ ≡ length s
        → Batched a os s₀ s₁ j
    batched_more {s₁} {j} flag x l = record {
      inside = x.inside;
      long = l ∙ b.long;
      table = λ st g w.
          let e = transactions_more (limits_of st) a os i j st.table (omega (arith, x.more)) (flag st g w) in
          subst (λ (t : Table). Writes s₁ (on_table t st)) e (x.table (after st) (after-sound st g) (b.table st g w));
    }
