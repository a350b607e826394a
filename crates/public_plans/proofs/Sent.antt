-- arrange: what it needs, and what it leaves.
use Prim.Native.Nat.{ℕ, suc, ◌*◌, ◌<◌}
use mathlib.Core.Path.{◌≡◌, refl, ap, ◌∙◌}
use mathlib.Core.Bool.{true, ◌&&◌}
use mathlib.Core.List.{List, [], ◌∷◌, map}
use native.Mathlib.Omega.{arith}
use lib.Dec.{leb, lit<}
use lib.ListN.{length, take, get_or}
use Rattle.ident.specs.declared.ItemKind.{ItemKind}
use Rattle.ident.specs.declared.ItemKind.TheVariants.{Transaction, WitnessTransaction, WTx, Other}
use Rattle.ident.specs.Number.{Item, type_of, is_plain}
use Rattle.words.specs.Words.{words}
use Rattle.words.proofs.Words.{length-words}
use Rattle.machine.specs.Limits.{word}
use Rattle.machine.specs.State.{Entry, Table}
use Rattle.machine.specs.Table.{at}
use Rattle.machine.specs.Claim.{elem, witness_kind, for_witness, insert_by_connection, sort_by_connection, arrange}
use Rattle.machine.specs.Typed.{Each}
use Rattle.machine.specs.Call.{Buffer, Arrange, On, entry_bytes, named, takes_place}
use Rattle.machine.specs.Step.{Entries, perform, entries_answer, written}
use Rattle.machine.proofs.Tests.{by_test}
use Rattle.store.specs.Image.{SoundStore, Bytes}
use Rattle.requests.specs.Changes.{Tells}
use Rattle.claiming.specs.Claiming.{entries_from}
use Rattle.outcome.specs.Outcome.{Does}
use Rattle.outcome.specs.Tests.{in_turn}
use Rattle.outcome.specs.Lent.{Lent}
use Rattle.outcome.proofs.Contract.{does-nothing}
use Rattle.outcome.proofs.Carried.{Names, passes, front_writes}
use Rattle.public_plans.proofs.Entered.{Whole, entries_back, word_small}

-- ---- an entry stays one that bytes can hold

-- the same hash, of a kind that bytes can hold
abbrev Fits : Item → Item → Type 0
Fits i j = (j.hash ≡ i.hash) × (is_plain j.kind ≡ true) × (type_of j.kind < 4294967296)

kind_fits : (k : ItemKind) → is_plain k ≡ true → type_of k < 4294967296 → (is_plain (witness_kind k) ≡ true) × (type_of (witness_kind k) < 4294967296)
kind_fits Transaction p l = (refl, lit< tt)
kind_fits WitnessTransaction p l = (p, l)
kind_fits WTx p l = (p, l)
kind_fits (Other n) p l = (p, l)

item_turned : (ws : List ℕ) (t : Table) (a : Entry) → Whole a → Fits a.candidate.item (for_witness ws t a).candidate.item
unfolding for_witness
item_turned ws t a g =
    let i = a.candidate.item in
    let k = kind_fits i.kind g.plain g.short in
    by_test (Fits i) (elem a.candidate.connection ws && (at a.key t).fallback) (λ e. (refl, k.0, k.1)) (λ e. (refl, g.plain, g.short))

witness_whole : (ws : List ℕ) (t : Table) (a : Entry) → Whole a → Whole (for_witness ws t a)
unfolding for_witness
witness_whole ws t a g =
    let f = item_turned ws t a g in
    let c = g.typed.candidate in
    record {
      typed = record { hash = g.typed.hash; candidate = record { connection = c.connection; hash = rw f.0 c.hash; ready = c.ready; priority = c.priority } };
      plain = f.1;
      short = f.2;
    }

all_whole : (ws : List ℕ) (t : Table) (l : List Entry) → Each Whole l → Each Whole (map (for_witness ws t) l)
all_whole ws t [] g = tt
all_whole ws t (a ∷ l) g = (witness_whole ws t a g.0, all_whole ws t l g.1)

put_whole : (a : Entry) (l : List Entry) → Whole a → Each Whole l → Each Whole (insert_by_connection a l)
unfolding insert_by_connection
put_whole a [] h g = (h, tt)
put_whole a (b ∷ l) h g = by_test (Each Whole) (leb a.candidate.connection b.candidate.connection) (λ e. (h, g)) (λ e. (g.0, put_whole a l h g.1))

sorted_whole : (l : List Entry) → Each Whole l → Each Whole (sort_by_connection l)
unfolding sort_by_connection
sorted_whole [] g = tt
sorted_whole (a ∷ l) g = put_whole a (sort_by_connection l) g.0 (sorted_whole l g.1)

arranged_whole : (ws : List ℕ) (l : List Entry) (t : Table) → Each Whole l → Each Whole (arrange ws l t)
unfolding arrange
arranged_whole ws l t g = sorted_whole (map (for_witness ws t) l) (all_whole ws t l g)

-- ---- the call

module _ (ws : List ℕ) (l : List Entry) where
  pub arranges : (u : Buffer) → Names (Arrange ws l u) ws [] 0 u (λ s. entry_bytes * length l)
  unfolding named takes_place
  arranges u = record { are = λ s. refl; placeless = λ s. refl }

  pub arranges_done : {u : Buffer} {b : List ℕ} (v : SoundStore b) → Each Whole l → 0 ≡ in_turn ws [] 0 (length u) (entry_bytes * length l) → {m : ℕ} → Lent b m
      → Bytes b → {u' : List ℕ} {n : ℕ} → Tells (take m b) (λ t. n ≡ length (arrange ws l t)) → Tells (take m b) (λ t. u' ≡ written (entries_answer (arrange ws l t)) u)
      → Does (On (Arrange ws l u)) b (record { reply = Entries (entries_from u' 0 n); buffer = u'; store = b })
  unfolding named perform
  arranges_done {u} {b} v w q e h {u'} {n} count put =
      let x = front_writes v e in
      let s = v.state in
      let sent = arrange ws l s.table in
      let bytes : u' ≡ written (entries_answer sent) u = put s v.sound x in
      let so_many : n ≡ length sent = count s v.sound x in
      let is : entries_from u' 0 n ≡ sent = (λ i. entries_from (bytes i) 0 (so_many i)) ∙ entries_back sent u (arranged_whole ws l s.table w) in
      does-nothing b _ (Arrange ws l u) v (passes (arranges u) v q) (ap Entries is) bytes refl h refl

-- ---- the words of lent bytes are of 64 bits

each_below : (l : List ℕ) → ((j : ℕ) → j < length l → get_or l j 0 < word) → Each (λ (n : ℕ). n < word) l
each_below [] p = tt
each_below (x ∷ l) p = (p 0 (omega arith), each_below l (λ j h. p (suc j) (omega (arith, h))))

pub words_small : (b : List ℕ) → Bytes b → Each (λ (n : ℕ). n < word) (words b)
words_small b p = each_below (words b) (λ j h. word_small b p j (omega (arith, h, length-words b)))
