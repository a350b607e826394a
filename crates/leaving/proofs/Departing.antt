-- disconnected: an owned key that forces what waits to be cut, and the end.
use Prim.Native.Nat.{ℕ, suc, ◌+◌, ◌-◌, ◌*◌, ◌≤◌, ◌<◌}
use mathlib.Core.Path.{◌≡◌, refl, sym, ap, subst, ◌∙◌}
use mathlib.Core.Bool.{true}
use mathlib.Core.List.{List, [], ◌∷◌, ◌++◌, append_assoc, append-nil}
use native.Mathlib.Omega.{arith}
use lib.ListN.{length, take, drop, length-append, length-drop, drop_of_length-le}
use lib.Seq.{take_at, drop_at, take_all, drop-drop}
use Rattle.ident.specs.Number.{Key, place}
use Rattle.machine.specs.Limits.{Limits, word}
use Rattle.machine.specs.State.{State, Table, Request, limits_of, on_table, owner_is}
use Rattle.machine.specs.Table.{at}
use Rattle.machine.specs.Call.{key_bytes}
use Rattle.machine.specs.Fail.{Listed, failed, parents_for}
use Rattle.machine.specs.Leave.{keys_of, drop_at_key, drop_each, sort_keys}
use Rattle.machine.specs.Sound.{Sound, Bounded}
use Rattle.machine.specs.Step.{keys_answer, written}
use Rattle.machine.specs.Typed.{Each, KeyTyped}
use Rattle.machine.proofs.Tests.{by_test}
use Rattle.machine.proofs.Announce.{each_append}
use Rattle.machine.proofs.Table.{lawful_at}
use Rattle.machine.proofs.Fail.{few_for}
use Rattle.machine.proofs.Leave.{bounded-drop_at_key}
use Rattle.machine.proofs.Kept.{sound-table}
use Rattle.machine.proofs.AnswerLengths.{length-keys_answer}
use Rattle.store.specs.Image.{Writes}
use Rattle.store.specs.Shown.{Kept}
use Rattle.requests.specs.Changes.{Tells}
use Rattle.lent_lists.specs.Lists.{keys_in}
use Rattle.lent_lists.proofs.Answer.{keys-append}
use Rattle.lent_lists.proofs.KeysBack.{keys_back}
use Rattle.failing.proofs.Leaving.{told}
use Rattle.merging.specs.Merges.{Rising}
use Rattle.cutting.specs.Cuts.{cut_each}
use Rattle.merging.specs.Merges.{inserts, InOrder, Takes}
use Rattle.handing.specs.Hands.{conns_of, Roomy, KeysMerged}
use Rattle.leaving.specs.Parting.{CutListed, Going}
use Rattle.leaving.proofs.Parts.{joined, each_else, within_next, rising_back, rising_front, drop_first}
use Rattle.leaving.proofs.Segments.{drop_part}
use Rattle.leaving.proofs.Between.{rising_at, rising-before, before-listed}
use Rattle.merging.proofs.Merging.{rising-typed, sort-inserts, length_over, written_over}
use Rattle.handing.proofs.Announcing.{same_state, typed_for}
use Rattle.handing.proofs.Dropping.{for_left}
use Rattle.leaving.proofs.Walking.{sorted_grows, sorted, Next, next_small, flushed, flushed_sound}

-- ---- the keys that are listed are keys

pub typed_drop : {m : Limits} {Q : ℕ} {t : Table} (n now : ℕ) (k : Key) → Bounded m Q t → Each KeyTyped (drop_at_key m n now k t).keys
unfolding drop_at_key
typed_drop {m} {Q} {t} n now k b =
    let hs = parents_for n (at k t) in
    let t' = (failed k n now t).table in
    by_test (λ (x : Listed). Each KeyTyped x.keys) (owner_is n (at k t).owner)
    (λ e. subst (λ (x : Listed). Each KeyTyped x.keys) (sym (for_left m now hs (at k t').candidates t'))
    (typed_for m now hs (conns_of (at k t').candidates) t' (few_for n (at k t) (lawful_at k t b.lawful))))
    (λ e. tt)

pub typed_each : {m : Limits} {Q : ℕ} {t : Table} (n now : ℕ) (ks : List Key) → now < word → Each KeyTyped ks → Bounded m Q t → Each KeyTyped (drop_each m n now ks t).keys
unfolding drop_each
typed_each n now [] w s b = tt
typed_each {m} {Q} {t} n now (k ∷ ks) w s b =
    let a = drop_at_key m n now k t in
    each_append KeyTyped a.keys (drop_each m n now ks a.table).keys (typed_drop n now k b) (typed_each {t = a.table} n now ks w s.1 (bounded-drop_at_key n now k s.0 w b))

-- ---- keys behind others

behind_is : (a z u : List ℕ) (x : ℕ) → length a ≡ x → a ++ written z (drop x u) ≡ written (a ++ z) u
unfolding written
behind_is a z u x l =
    let e : length (a ++ z) ≡ x + length z = length-append a z ∙ ap (λ (j : ℕ). j + length z) l in
    rw (drop-drop (length z) x u, e, append_assoc a z (drop (x + length z) u))

module _ (ks S : List Key) (u₀ u : List ℕ) (x : ℕ) (l : length ks * key_bytes ≡ x) (e : u ≡ written (keys_answer (ks ++ S)) u₀) where
  long : length (keys_answer ks) ≡ x
  long = length-keys_answer ks ∙ (let z : key_bytes * length ks ≡ x = omega arith in z)

  split : u ≡ keys_answer ks ++ written (keys_answer S) (drop x u₀)
  split = e ∙ ap (λ (z : List ℕ). written z u₀) (keys-append ks S) ∙ sym (behind_is (keys_answer ks) (keys_answer S) u₀ x long)

  pub lent_is : (y : ℕ) → y ≡ length u → take (y - x) (drop x u) ≡ written (keys_answer S) (drop x u₀)
  lent_is y h = take_all (y - x) (drop x u) (rw (length-drop x u) (omega arith)) ∙ ap (drop x) split ∙ drop_at (keys_answer ks) (written (keys_answer S) (drop x u₀)) x long

  -- what comes back in its place
  pub back_is : (y : ℕ) (S₁ : List Key) {v v₁ : List ℕ} → y ≡ length u → v ≡ take (y - x) (drop x u) → length S ≤ length S₁ → key_bytes * length S ≤ length (drop x u₀)
      → v₁ ≡ written (keys_answer S₁) v → take x u ++ (v₁ ++ drop (y - x) (drop x u)) ≡ written (keys_answer (ks ++ S₁)) u₀
  back_is y S₁ {v} {v₁} h p more room q =
      let none : drop (y - x) (drop x u) ≡ [] = drop_of_length-le (drop x u) {i = y - x} (rw (length-drop x u) (omega arith)) in
      let front : take x u ≡ keys_answer ks = ap (take x) split ∙ take_at (keys_answer ks) (written (keys_answer S) (drop x u₀)) x long in
      let part : v₁ ≡ written (keys_answer S₁) (drop x u₀) = q ∙ ap (written (keys_answer S₁)) (p ∙ lent_is y h) ∙ written_over S S₁ (drop x u₀) more room in
      ap (λ (z : List ℕ). z ++ (v₁ ++ drop (y - x) (drop x u))) front
      ∙ ap (λ (z : List ℕ). keys_answer ks ++ (v₁ ++ z)) none
      ∙ ap (λ (z : List ℕ). keys_answer ks ++ z) (append-nil v₁ ∙ part)
      ∙ behind_is (keys_answer ks) (keys_answer S₁) u₀ x long
      ∙ ap (λ (z : List ℕ). written z u₀) (sym (keys-append ks S₁))

-- ---- the next key is owned, and its parents are announced

module _ {n now : ℕ} {st : State} {u₀ b u : List ℕ} {own from i parents : ℕ} (g : Going n now st u₀ b u own from i parents) where
  abbrev m : Limits
  m = limits_of st

  abbrev ks : List Key
  ks = keys_of n st.table

  abbrev S : List Key
  S = sort_keys g.acc

  x : ℕ
  x = own * key_bytes

  start : length ks * key_bytes ≡ x
  unfolding x
  start = omega (arith, g.own-are)

  pub going-long : now < word → length u ≡ length u₀
  going-long late = ap length g.bytes ∙ length_over (ks ++ S) u₀ (omega (arith, g.room, length-append ks S, length-append ks (sort_keys (drop_each m n now ks st.table).keys), fewer))
    where
      fewer : length S ≤ length (sort_keys (drop_each m n now ks st.table).keys)
      fewer = rw g.keys_left (sorted_grows g.acc (drop_each m n now (g.waiting ++ g.rest) g.table).keys g.typed
          (typed_each n now (g.waiting ++ g.rest) late (rising-typed g.lo (g.waiting ++ g.rest) g.rising) g.sound.bounded))

  pub start_inside : own * key_bytes ≤ length u
  unfolding x
  start_inside =
      omega (
        arith,
        ap length (split ks S u₀ u (own * key_bytes) start g.bytes),
        long ks S u₀ u (own * key_bytes) start g.bytes,
        length-append (keys_answer ks) (written (keys_answer S) (drop (own * key_bytes) u₀)),
      )

  -- the part of the buffer behind its own keys, which is lent
  module _ (late : now < word) (y : ℕ) (end : y ≡ length u) where
    v : List ℕ
    v = take (y - own * key_bytes) (drop (own * key_bytes) u)

    w : List ℕ
    w = drop (own * key_bytes) u₀

    v_is : v ≡ written (keys_answer S) w
    unfolding v w x
    v_is = lent_is ks S u₀ u (own * key_bytes) start g.bytes y end

    w-long : length w ≡ length u₀ - own * key_bytes
    unfolding w
    w-long = length-drop (own * key_bytes) u₀

    total_is : length ks + length (sort_keys (drop_each m n now ks st.table).keys) ≡ length (ks ++ sort_keys (drop_each m n now ks st.table).keys)
    total_is = sym (length-append ks (sort_keys (drop_each m n now ks st.table).keys))

    -- room for keys up to all that are listed in the end
    fits : (l js : List Key) → Each KeyTyped l → Each KeyTyped js → (drop_each m n now ks st.table).keys ≡ l ++ js → key_bytes * length (sort_keys l) ≤ length w
    fits l js p q e =
        let all : length (sort_keys (drop_each m n now ks st.table).keys) ≡ length (sort_keys (l ++ js)) = ap (λ (z : List Key). length (sort_keys z)) e in
        omega (arith, sorted_grows l js p q, all, total_is, g.room, w-long, g.own-are)

    left_typed : Each KeyTyped (drop_each m n now (g.waiting ++ g.rest) g.table).keys
    left_typed = typed_each n now (g.waiting ++ g.rest) late (rising-typed g.lo (g.waiting ++ g.rest) g.rising) g.sound.bounded

    S-fits : key_bytes * length S ≤ length w
    S-fits = fits g.acc (drop_each m n now (g.waiting ++ g.rest) g.table).keys g.typed left_typed g.keys_left

    v-keys : keys_in parents v ≡ S
    v-keys = ap (λ (j : ℕ). keys_in j v) g.parents-are ∙ ap (keys_in (length S)) v_is ∙ keys_back S w (rising-typed 0 S (sorted g))

    v-long : length v ≡ length w
    v-long = ap length v_is ∙ length_over S w S-fits

    pub part_order : InOrder (take (y - own * key_bytes) (drop (own * key_bytes) u)) parents
    unfolding v
    part_order = record {
      room = omega (arith, g.parents-are, v-long, S-fits);
      rising = rw v-keys (sorted g);
      bytes = v_is ∙ sym (ap (λ (l : List Key). written (keys_answer l) v) v-keys ∙ ap (written (keys_answer S)) v_is ∙ written_over S S w (omega arith) S-fits);
    }

    module _ {k : Key} (nx : Next g k) {b₁ : List ℕ} (cl : CutListed n u from i b b₁) (owns : owner_is n (at k g.table).owner ≡ true) where
      t₁ : Table
      t₁ = cut_each n g.waiting g.table

      writes₁ : Writes b₁ (on_table t₁ st)
      unfolding t₁
      writes₁ = flushed g cl

      sound₁ : Sound (on_table t₁ st)
      unfolding t₁
      sound₁ = flushed_sound g

      pub cut_kept : Kept b₁
      cut_kept = record { state = on_table t₁ st; sound = sound₁; writes = writes₁ }

      rise : Rising g.lo (g.waiting ++ (k ∷ nx.later))
      rise = rw nx.is at g.rising

      before : Each (λ j. place j < place k) g.waiting
      before = rising-before k nx.later g.lo g.waiting rise

      owned₁ : owner_is n (at k t₁).owner ≡ true
      unfolding t₁
      owned₁ = ap (λ (r : Request). owner_is n r.owner) (each_else n k g.waiting g.table (before-listed k g.waiting before)) ∙ owns

      pub cut-owned : Tells b₁ (λ t. owner_is n (at k t).owner ≡ true)
      cut-owned = told (λ t. owner_is n (at k t).owner ≡ true) (on_table t₁ st) sound₁ writes₁ owned₁

      a : Listed
      a = drop_at_key m n now k t₁

      later : Listed
      later = drop_each m n now nx.later a.table

      same_drop : drop_each m n now (g.waiting ++ g.rest) g.table ≡ joined a later
      unfolding a later t₁
      same_drop =
          ap (λ (l : List Key). drop_each m n now (g.waiting ++ l) g.table) nx.is
          ∙ drop_part m n now g.lo g.waiting (k ∷ nx.later) g.table (rising_front g.lo g.waiting g.rest g.rising) g.unowned
          ∙ drop_first m n now k nx.later (cut_each n g.waiting g.table)

      new_typed : Each KeyTyped a.keys
      unfolding a
      new_typed = typed_drop n now k sound₁.bounded

      bounded₂ : Bounded m st.places a.table
      unfolding a
      bounded₂ = bounded-drop_at_key n now k (next_small g late nx) late sound₁.bounded

      later-typed : Each KeyTyped later.keys
      unfolding later
      later-typed = typed_each n now nx.later late (rising-typed (suc (place k)) nx.later (rising_back g.lo g.waiting k nx.later rise)) bounded₂

      acc-typed : Each KeyTyped (g.acc ++ a.keys)
      acc-typed = each_append KeyTyped g.acc a.keys g.typed new_typed

      keys₂ : (drop_each m n now ks st.table).keys ≡ (g.acc ++ a.keys) ++ later.keys
      keys₂ = g.keys_left ∙ ap (λ (l : Listed). g.acc ++ l.keys) same_drop ∙ sym (append_assoc g.acc a.keys later.keys)

      merged_is : inserts a.keys (keys_in parents v) ≡ sort_keys (g.acc ++ a.keys)
      merged_is = ap (inserts a.keys) v-keys ∙ sym (sort-inserts g.acc a.keys g.typed new_typed)

      pub cut-room : Roomy b₁ (take (y - own * key_bytes) (drop (own * key_bytes) u)) parents (λ m t. drop_at_key m n now k t)
      unfolding v a
      cut-room s' f h =
          let fit : Takes a.keys v parents = omega (arith, ap length merged_is, fits (g.acc ++ a.keys) later.keys acc-typed later-typed keys₂, v-long) in
          subst (λ (z : State). Takes (drop_at_key (limits_of z) n now k z.table).keys v parents) (same_state (on_table t₁ st) s' sound₁ f writes₁ h) fit

      pub turn_drops : {b₂ v₁ : List ℕ} {r : ℕ} → KeysMerged b₁ b₂ (take (y - own * key_bytes) (drop (own * key_bytes) u)) v₁ parents r (λ m t. drop_at_key m n now k t)
          → Going n now st u₀ b₂ (take (own * key_bytes) u ++ (v₁ ++ drop (y - own * key_bytes) (drop (own * key_bytes) u))) own (i + 1) (i + 1) r
      unfolding v w x a later t₁
      turn_drops {b₂} {v₁} {r} km =
          let mm = km.merged (on_table t₁ st) sound₁ writes₁ in
          let S₁ = sort_keys (g.acc ++ a.keys) in
          let more : length S ≤ length S₁ = sorted_grows g.acc a.keys g.typed new_typed in
          record {
            first = g.first;
            room = g.room;
            table = a.table;
            sound = sound-table g.sound bounded₂;
            writes = km.table (on_table t₁ st) sound₁ writes₁;
            acc = g.acc ++ a.keys;
            typed = acc-typed;
            done = g.done ++ (g.waiting ++ (k ∷ []));
            waiting = [];
            rest = nx.later;
            lo = suc (place k);
            parents-are = mm.count ∙ ap length merged_is;
            bytes = back_is ks S u₀ u (own * key_bytes) start g.bytes y S₁ end refl more S-fits (mm.bytes ∙ ap (λ (l : List Key). written (keys_answer l) v) merged_is);
            all = g.all ∙ ap (λ (l : List Key). g.done ++ (g.waiting ++ l)) nx.is ∙ ap (λ (l : List Key). g.done ++ l) (sym (append_assoc g.waiting (k ∷ []) nx.later)) ∙
                sym (append_assoc g.done (g.waiting ++ (k ∷ [])) nx.later);
            own-are = g.own-are;
            from_is = omega (arith, g.i_is, g.from_is, length-append g.done (g.waiting ++ (k ∷ [])), length-append g.waiting (k ∷ []));
            i_is = omega arith;
            rising = rising_back g.lo g.waiting k nx.later rise;
            unowned = tt;
            within = within_next n now g.lo g.waiting k nx.later g.table (rising_at k nx.later g.lo g.waiting rise).0 (next_small g late nx) late before sound₁.bounded
                (rw nx.is at g.within);
            keys_left = keys₂;
            table_left = g.table_left ∙ ap (λ (l : Listed). l.table) same_drop;
          }
