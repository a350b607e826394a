-- disconnected: what it needs, what it lists, and what it leaves.
use Prim.Native.Nat.{ℕ, min, ◌+◌, ◌*◌, ◌<◌}
use mathlib.Core.Path.{◌≡◌, refl, sym, ap, ◌∙◌}
use mathlib.Core.List.{List, [], ◌∷◌, ◌++◌, append_assoc}
use lib.ListN.{length, take, drop}
use lib.Seq.{drop_at}
use Rattle.ident.specs.Number.{Key}
use Rattle.machine.specs.Limits.{word, max_peer_announcements, max_parents}
use Rattle.machine.specs.State.{State, limits_of}
use Rattle.machine.specs.Leave.{Gone, keys_of, drop_each, sort_keys, disconnected}
use Rattle.machine.specs.Sound.{Sound}
use Rattle.machine.specs.Typed.{Each, KeyTyped}
use Rattle.machine.specs.Call.{Buffer, Disconnected, On, key_bytes, named, takes_place}
use Rattle.machine.specs.Step.{Left, perform, keys_answer, written}
use Rattle.machine.proofs.Leave.{keys-of}
use Rattle.machine.proofs.AnswerLengths.{length-keys_answer}
use Rattle.store.specs.Image.{SoundStore, Bytes}
use Rattle.lent_lists.specs.Lists.{keys_in}
use Rattle.lent_lists.proofs.Answer.{keys-append}
use Rattle.lent_lists.proofs.KeysBack.{keys_back}
use Rattle.leaving.specs.declared.Left.{Left as Counts}
use Rattle.leaving.specs.Parting.{Parted}
use Rattle.merging.proofs.Merging.{rising-typed}
use Rattle.leaving.proofs.Walking.{sorted-rising}
use Rattle.leaving.proofs.Departing.{typed_each}
use Rattle.outcome.specs.Outcome.{Does}
use Rattle.outcome.specs.Tests.{in_turn}
use Rattle.outcome.specs.Lent.{Lent}
use Rattle.outcome.proofs.Carried.{Keyed, passes, front_writes, does_front}

-- so many keys at the most
abbrev most : State → ℕ
most s = min max_peer_announcements s.limit + max_parents * s.places

pub departs : (n clock : ℕ) (u : Buffer) → Keyed (Disconnected n clock u) (n ∷ []) (clock ∷ []) 0 u most
unfolding named takes_place
departs n clock u = record { are = λ s. refl; placeless = λ s. refl }

-- ---- keys of two lists, one behind the other, read back

over_itself : (a v : List ℕ) → a ++ v ≡ written a (a ++ v)
unfolding written
over_itself a v = ap (λ (x : List ℕ). a ++ x) (sym (drop_at a v (length a) refl))

module _ (ks ps : List Key) (u : Buffer) where
  abbrev behind : List ℕ
  behind = keys_answer ps ++ drop (length (keys_answer (ks ++ ps))) u

  in_two : written (keys_answer (ks ++ ps)) u ≡ keys_answer ks ++ behind
  unfolding written
  in_two = ap (λ (x : List ℕ). x ++ drop (length (keys_answer (ks ++ ps))) u) (keys-append ks ps) ∙ append_assoc (keys_answer ks) (keys_answer ps) (drop (length (keys_answer (ks ++ ps))) u)

  own_back : Each KeyTyped ks → keys_in (length ks) (written (keys_answer (ks ++ ps)) u) ≡ ks
  own_back e = ap (keys_in (length ks)) (in_two ∙ over_itself (keys_answer ks) behind) ∙ keys_back ks (keys_answer ks ++ behind) e

  parents_back : Each KeyTyped ps → keys_in (length ps) (drop (key_bytes * length ks) (written (keys_answer (ks ++ ps)) u)) ≡ ps
  parents_back e =
      let rest : drop (key_bytes * length ks) (written (keys_answer (ks ++ ps)) u) ≡ behind =
      ap (drop (key_bytes * length ks)) in_two ∙ drop_at (keys_answer ks) behind (key_bytes * length ks) (length-keys_answer ks) in
      ap (keys_in (length ps)) (rest ∙ over_itself (keys_answer ps) (drop (length (keys_answer (ks ++ ps))) u)) ∙ keys_back ps behind e

module _ (n clock : ℕ) where
  abbrev goes : State → Gone
  goes s = disconnected (limits_of s) n clock s.table

  -- ---- those that it lists have 256 bits

  own-typed : (s : State) → Sound s → Each KeyTyped (goes s).own
  unfolding disconnected
  own-typed s g = keys-of n 0 s.table g.bounded.ordered

  parents-typed : (s : State) → Sound s → clock < word → Each KeyTyped (goes s).parents
  unfolding disconnected
  parents-typed s g w =
      let l = (drop_each (limits_of s) n clock (keys_of n s.table) s.table).keys in
      rising-typed 0 (sort_keys l) (sorted-rising l (typed_each n clock (keys_of n s.table) w (keys-of n 0 s.table g.bounded.ordered) g.bounded))

  -- ---- carried out

  pub departs_done : {u : Buffer} {b : List ℕ} (v : SoundStore b) → clock < word → 0 ≡ in_turn (n ∷ []) (clock ∷ []) 0 (length u) (key_bytes * most v.state)
      → {m : ℕ} → Lent b m → {p : List ℕ} → Bytes (p ++ drop m b) → {u' : List ℕ} {r : Counts} → Parted (take m b) p u u' r goes
      → Does (On (Disconnected n clock u)) b (record { reply = Left (keys_in r.own u') (keys_in r.parents (drop (key_bytes * r.own) u')); buffer = u'; store = p ++ drop m b })
  unfolding named perform
  departs_done {u} v w q e {p} h {u'} {r} g =
      let x = front_writes v e in
      let s = v.state in
      let own = (goes s).own in
      let parents = (goes s).parents in
      let bytes : u' ≡ written (keys_answer (own ++ parents)) u = g.keys s v.sound x in
      let few : r.own ≡ length own = g.own s v.sound x in
      let more : r.parents ≡ length parents = g.parents s v.sound x in
      let first : keys_in r.own u' ≡ own = (λ i. keys_in (few i) (bytes i)) ∙ own_back own parents u (own-typed s v.sound) in
      let second : keys_in r.parents (drop (key_bytes * r.own) u') ≡ parents =
      (λ i. keys_in (more i) (drop (key_bytes * few i) (bytes i))) ∙ parents_back own parents u (parents-typed s v.sound w) in
      does_front v e (Disconnected n clock u) (passes (departs n clock u) v q) p h _ u' (λ i. Left (first i) (second i)) bytes (g.table s v.sound x)
