-- plan: what it needs, and what it leaves, of whatever answers as the machine plans.
use Prim.Native.Nat.{ℕ, min, ◌+◌, ◌*◌, ◌<◌}
use mathlib.Core.Path.{◌≡◌, refl, subst, ◌∙◌}
use mathlib.Core.Bool.{Bool, true}
use mathlib.Core.List.{List, [], ◌∷◌, ◌++◌}
use mathlib.Core.Option.{Option, none, some}
use native.Mathlib.Omega.{arith}
use lib.Dec.{eqb, leb, lit<}
use lib.ListN.{length, take, drop}
use denote.Ref.{Bor}
use Rattle.std.specs.Prelude as rust
use Rattle.std.specs.Prelude.{IfSome}
use Rattle.ident.specs.declared.ItemKind.{ItemKind}
use Rattle.ident.specs.declared.ItemKind.TheVariants.{Transaction, WitnessTransaction, WTx, Other}
use Rattle.ident.specs.Number.{Key, txid, wtxid, kind_of, key_as, type_of, is_plain, top}
use Rattle.machine.specs.Limits.{Limits, max_request_checks, word}
use Rattle.machine.specs.State.{Candidate, Entry, Table, State, is_none}
use Rattle.machine.specs.Table.{at, keys, owned_at}
use Rattle.machine.specs.Sound.{Fits, AllFit, Bounded, Sound}
use Rattle.machine.specs.Typed.{Each, KeyTyped, KeysTyped}
use Rattle.machine.specs.Plan.{chosen_at, able, sooner, better, or_else, least_in, least_at, choice, Scan}
use Rattle.machine.specs.Plan.{start, add, consider, phase, insert_by_priority, sort_by_priority, asked_keys, expired, plan}
use Rattle.choosing.specs.Choosing.{option_of}
use Rattle.machine.specs.Call.{Buffer, Plan, On, entry_bytes, named, takes_place}
use Rattle.machine.specs.Step.{Chosen, perform}
use Rattle.machine.proofs.Tests.{by_test}
use Rattle.machine.proofs.Table.{at_key, lawful_at}
use Rattle.machine.proofs.Announce.{each_append}
use Rattle.machine.proofs.Plan.{keys-typed, round-typed, bounded-expired, expired-keys}
use Rattle.store.specs.Image.{Writes, SoundStore, Bytes}
use Rattle.planning.specs.declared.plan.Planned.{Planned}
use Rattle.claiming.specs.Claiming.{entries_from}
use Rattle.planning.specs.Replying.{asked_in, Plans}
use Rattle.selecting.proofs.Given.{given_typed}
use Rattle.outcome.specs.Outcome.{Does}
use Rattle.outcome.specs.Tests.{in_turn}
use Rattle.outcome.specs.Lent.{Lent}
use Rattle.outcome.proofs.Carried.{Names, passes, front_writes, does_front}
use Rattle.public_plans.proofs.Entered.{Whole, entries_back}

-- ---- a candidate of a request is an entry that bytes can hold

kind_whole : (k : ItemKind) (h : ℕ) (j : Key) → key_as (kind_of k) h ≡ some j → (is_plain k ≡ true) × (type_of k < 4294967296) × (h ≡ j.hash)
kind_whole Transaction h j e = (refl, lit< tt, cc)
kind_whole WitnessTransaction h j e = (refl, lit< tt, cc)
kind_whole WTx h j e = (refl, lit< tt, cc)
kind_whole (Other n) h j e = absurd (none_some j e)
  where
    none_some : (j : Key) → none ≡ some j → ⊥
    none_some j e = let z : ◌≡◌ {A = ℕ} 0 1 = cc in omega arith

fits_whole : (k : Key) (c : Candidate) → k.hash < top → Fits k c → Whole (record { key = k; candidate = c })
fits_whole k c h f =
    let g = kind_whole c.item.kind c.item.hash k f.item in
    record {
      typed = record { hash = h; candidate = record { connection = f.connection; hash = rw g.2 h; ready = f.ready; priority = f.priority } };
      plain = g.0;
      short = g.1;
    }

-- ---- so is what a plan chooses

abbrev Held : Option Entry → Type 0
Held none = Unit {0}
Held (some a) = Whole a

better_held : (a : Entry) (o : Option Entry) → Whole a → Held o → Held (better a o)
unfolding better
better_held a none h g = h
better_held a (some b) h g = by_test Whole (sooner b.candidate a.candidate) (λ e. g) (λ e. h)

else_held : (o p : Option Entry) → Held o → Held p → Held (or_else o p)
unfolding or_else
else_held none p h g = g
else_held (some a) p h g = better_held a p h g

least_held : (p : Candidate → Bool) (k : Key) (cs : List Candidate) → k.hash < top → AllFit k cs → Held (least_in p k cs)
unfolding least_in
least_held p k [] h f = tt
least_held p k (c ∷ cs) h f =
    let rest = least_held p k cs h f.1 in
    by_test Held (p c) (λ e. better_held (record { key = k; candidate = c }) (least_in p k cs) (fits_whole k c h f.0) rest) (λ e. rest)

at_held : {m : Limits} {Q : ℕ} {t : Table} (p : Candidate → Bool) (k : Key) → k.hash < top → Bounded m Q t → Held (least_at p k t)
unfolding least_at
at_held {m} {Q} {t} p k h b =
    let f : AllFit k (at k t).candidates = subst (λ (x : Key). AllFit x (at k t).candidates) (at_key k 0 t h b.ordered) (lawful_at k t b.lawful).candidates in
    by_test Held (is_none (at k t).owner) (λ e. least_held p k (at k t).candidates h f) (λ e. tt)

choice_held : {m : Limits} {Q : ℕ} {t : Table} (now : ℕ) (l : List Entry) (k : Key) → k.hash < top → Bounded m Q t → Held (choice now t l k)
unfolding choice
choice_held {m} {Q} {t} now l k h b =
    else_held (least_at (able now t l) (txid k.hash) t) (least_at (able now t l) (wtxid k.hash) t) (at_held (able now t l) (txid k.hash) h b) (at_held (able now t l) (wtxid k.hash) h b)

add_whole : (o : Option Entry) (l : List Entry) → Held o → Each Whole l → Each Whole (add o l)
add_whole none l h g = g
add_whole (some a) l h g = each_append Whole l (a ∷ []) g (h, tt)

module _ {m : Limits} {Q : ℕ} {t : Table} (b : Bounded m Q t) (now : ℕ) where
  consider_whole : (k : Key) (s : Scan) → k.hash < top → Each Whole s.chosen → Each Whole (consider now t k s).chosen
  unfolding consider
  consider_whole k s h g =
      by_test (Each Whole) (eqb (owned_at k.hash t + chosen_at k.hash s.chosen) 0) (λ e. add_whole (choice now t s.chosen k) s.chosen (choice_held now s.chosen k h b) g) (λ e. g)

  phase_whole : (ks : List Key) (s : Scan) → Each KeyTyped ks → Each Whole s.chosen → Each Whole (phase now t ks s).chosen
  unfolding phase
  phase_whole [] s a g = g
  phase_whole (k ∷ ks) s a g =
      let s' = consider now t k s in
      let g' = consider_whole k s a.0 g in
      by_test (λ (x : Scan). Each Whole x.chosen) (leb max_request_checks (length s'.chosen)) (λ e. g') (λ e. phase_whole ks s' a.1 g')

put_whole : (a : Entry) (l : List Entry) → Whole a → Each Whole l → Each Whole (insert_by_priority a l)
unfolding insert_by_priority
put_whole a [] h g = (h, tt)
put_whole a (b ∷ l) h g = by_test (Each Whole) (leb a.candidate.priority b.candidate.priority) (λ e. (h, g)) (λ e. (g.0, put_whole a l h g.1))

sorted_whole : (l : List Entry) → Each Whole l → Each Whole (sort_by_priority l)
unfolding sort_by_priority
sorted_whole [] g = tt
sorted_whole (a ∷ l) g = put_whole a (sort_by_priority l) g.0 (sorted_whole l g.1)

asked-typed : (now : ℕ) (asked : Option (List Key)) (s : State) → now < word → Sound s → KeysTyped asked
    → Each KeyTyped (asked_keys asked s.ready_cursor (expired now s).table)
asked-typed now none s w g a = let t = (expired now s).table in round-typed s.ready_cursor (keys t) (keys-typed 0 t (bounded-expired now s w g).ordered)
asked-typed now (some ks) s w g a = a

plan_whole : (now : ℕ) (asked : Option (List Key)) (s : State) → now < word → Sound s → KeysTyped asked → Each Whole (plan now asked s).entries
unfolding plan
plan_whole now asked s w g a =
    let b = bounded-expired now s w g in
    let first = phase_whole b now (expired now s).keys start (expired-keys now s w g) tt in
    sorted_whole _ (phase_whole b now (asked_keys asked s.ready_cursor (expired now s).table) _ (asked-typed now asked s w g a) first)

-- ---- the call

-- keys that bytes hold are keys
pub asked_typed : (o : rust.Option (Bor (List ℕ))) → IfSome o (λ g. Bytes g.now) → KeysTyped (asked_in (λ g. g.now) o)
asked_typed rust.None h = tt
asked_typed (rust.Some g) h = given_typed g.now h

module _ (clock : ℕ) (asked : Option (List Key)) where
  pub plans : (u : Buffer) → Names (Plan clock asked u) [] (clock ∷ []) 0 u (λ s. entry_bytes * min (max_request_checks + 1) s.limit)
  unfolding named takes_place
  plans u = record { are = λ s. refl; placeless = λ s. refl }

  pub plans_done : {u : Buffer} {b : List ℕ} (v : SoundStore b) → clock < word → KeysTyped asked
      → 0 ≡ in_turn [] (clock ∷ []) 0 (length u) (entry_bytes * min (max_request_checks + 1) v.state.limit) → {m : ℕ} → Lent b m
      → {p : List ℕ} → Bytes (p ++ drop m b) → {u' : List ℕ} {r : Planned} → ((s : State) → Sound s → Writes (take m b) s → Plans clock asked s p u u' r)
      → Does (On (Plan clock asked u)) b (record { reply = Chosen r.considered (entries_from u' 0 r.count) (option_of r.next); buffer = u'; store = p ++ drop m b })
  unfolding named perform
  plans_done {u} v w k q e {p} h {u'} {r} f =
      let s = v.state in
      let g = f s v.sound (front_writes v e) in
      let l = (plan clock asked s).entries in
      let is : entries_from u' 0 r.count ≡ l = (λ i. entries_from (g.entries i) 0 (g.count i)) ∙ entries_back l u (plan_whole clock asked s w v.sound k) in
      does_front v e (Plan clock asked u) (passes (plans u) v q) p h _ u' (λ i. Chosen (g.considered i) (is i) (g.next i)) g.entries g.state
