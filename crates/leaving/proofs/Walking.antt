-- disconnected on the way from key to key: what is lent and read, what waits, what is cut.
use Prim.Native.Nat.{ℕ, suc, ◌+◌, ◌-◌, ◌≤◌, ◌<◌}
use mathlib.Core.Path.{◌≡◌, refl, sym, ap, subst, ◌∙◌}
use mathlib.Core.Logic.{inl, inr}
use mathlib.Core.List.{List, [], ◌∷◌, ◌++◌, append_assoc}
use native.Mathlib.Omega.{arith}
use lib.ListN.{length, get_or, length-append, get_or-append}
use lib.Seq.{get_or-append-add, get_or_at}
use Rattle.ident.specs.Number.{top, Key, place, other}
use Rattle.machine.specs.Limits.{word}
use Rattle.machine.specs.State.{State, Table, limits_of, on_table}
use Rattle.machine.specs.Fail.{Listed}
use Rattle.machine.specs.Leave.{keys_of, drop_each, sort_keys}
use Rattle.machine.specs.Sound.{Sound, Bounded}
use Rattle.machine.specs.Typed.{Each, KeyTyped}
use Rattle.machine.proofs.Announce.{each_append}
use Rattle.machine.proofs.Leave.{keys-of}
use Rattle.machine.proofs.Kept.{sound-table}
use Rattle.store.specs.Image.{Writes}
use Rattle.store.specs.Shown.{Kept}
use Rattle.lent_lists.specs.Lists.{keys_in}
use Rattle.lent_lists.proofs.KeysBack.{keys_back, key-is}
use Rattle.merging.specs.Merges.{Rising}
use Rattle.cutting.specs.Cuts.{between, cuts, cut_each}
use Rattle.handing.specs.Hands.{eased}
use Rattle.leaving.specs.Parts.{Unowned, Within}
use Rattle.handing.specs.Hands.{Rests}
use Rattle.leaving.specs.Parting.{key_out, CutListed, Going}
use Rattle.leaving.proofs.Parts.{part_range, bounded_each, unowned_more, rising_front}
use Rattle.leaving.proofs.Segments.{drop_part}
use Rattle.leaving.proofs.Easing.{drop-eased, eased-unowned, within-eased}
use Rattle.leaving.proofs.Between.{each_front, each_back, rising_at, rising-before, before-listed, before-differ, ends_of, apart-keys, held-at}
use Rattle.merging.proofs.Merging.{rising-typed, rising-inserts, sort-inserts, inserts-grow}
use Rattle.handing.proofs.GivingBack.{bounded-eased}

-- ---- sorted lists

sort_none : sort_keys [] ≡ []
unfolding sort_keys
sort_none = refl

pub sorted-rising : (l : List Key) → Each KeyTyped l → Rising 0 (sort_keys l)
sorted-rising l e = subst (Rising 0) (sym (sort-inserts [] l tt e)) (rising-inserts l (sort_keys []) e (rw sort_none tt))

pub sorted_grows : (l ks : List Key) → Each KeyTyped l → Each KeyTyped ks → length (sort_keys l) ≤ length (sort_keys (l ++ ks))
sorted_grows l ks e d = rw (sort-inserts l ks e d) (inserts-grow ks (sort_keys l))

module _ {n now : ℕ} {st : State} {u₀ b u : List ℕ} {own from i parents : ℕ} (g : Going n now st u₀ b u own from i parents) where
  pub going_kept : Kept b
  going_kept = record { state = on_table g.table st; sound = g.sound; writes = g.writes }

  bounded : Bounded (limits_of st) st.places g.table
  bounded = g.sound.bounded

  abbrev ks : List Key
  ks = keys_of n st.table

  abbrev S : List Key
  S = sort_keys g.acc

  pub sorted : Rising 0 (sort_keys g.acc)
  sorted = sorted-rising g.acc g.typed

  all_typed : Each KeyTyped (ks ++ S)
  all_typed = each_append KeyTyped ks S (keys-of n 0 st.table g.first.bounded.ordered) (rising-typed 0 S sorted)

  -- ---- the buffer

  pub counted : length (keys_of n st.table) ≡ length g.done + (length g.waiting + length g.rest)
  counted = ap length g.all ∙ length-append g.done (g.waiting ++ g.rest) ∙ ap (λ (x : ℕ). length g.done + x) (length-append g.waiting g.rest)

  key-out : (j : ℕ) (d : Key) → j < length ks → key_out u j ≡ get_or ks j d
  key-out j d h =
      let N = length (ks ++ S) in
      let all : keys_in N u ≡ ks ++ S = ap (λ (x : List ℕ). keys_in N x) g.bytes ∙ keys_back (ks ++ S) u₀ all_typed in
      sym (key-is N u j d (omega (arith, length-append ks S))) ∙ ap (λ (l : List Key). get_or l j d) all ∙ get_or-append ks S d j h

  -- a key that waits
  key-waiting : (x : ℕ) (d : Key) → x < length g.waiting → key_out u (from + x) ≡ get_or g.waiting x d
  key-waiting x d h =
      key-out (from + x) d (omega (arith, counted, g.from_is))
      ∙ ap (λ (l : List Key). get_or l (from + x) d) g.all
      ∙ ap (λ (j : ℕ). get_or (g.done ++ (g.waiting ++ g.rest)) (j + x) d) g.from_is
      ∙ get_or-append-add g.done (g.waiting ++ g.rest) x d
      ∙ get_or-append g.waiting g.rest d x h

  -- the next to look at
  pub record Next (k : Key) : Type 0 where
    pub later : List Key
    pub is : g.rest ≡ k ∷ later

  pub next_key : (k : Key) → i < own → k ≡ key_out u i → Next k
  next_key k h e = go g.rest refl
    where
      go : (l : List Key) → g.rest ≡ l → Next k
      go [] q = absurd (omega (arith, counted, g.own-are, g.from_is, g.i_is, ap length q))
      go (x ∷ js) q =
          let place : i ≡ length g.done + length g.waiting = g.i_is ∙ ap (λ (j : ℕ). j + length g.waiting) g.from_is in
          let front : length (g.done ++ g.waiting) ≡ i = length-append g.done g.waiting ∙ sym place in
          let list : ks ≡ (g.done ++ g.waiting) ++ (x ∷ js) = g.all ∙ ap (λ (l : List Key). g.done ++ (g.waiting ++ l)) q ∙ sym (append_assoc g.done g.waiting (x ∷ js)) in
          let here : k ≡ x = e ∙ key-out i x (omega (arith, g.own-are)) ∙ ap (λ (l : List Key). get_or l i x) list ∙ get_or_at (g.done ++ g.waiting) x js x i front in
          record { later = js; is = q ∙ ap (λ (y : Key). y ∷ js) (sym here) }

  -- ---- what waits is cut in one pass

  pub flushed : {b₁ : List ℕ} → CutListed n u from i b b₁ → Writes b₁ (on_table (cut_each n g.waiting g.table) st)
  flushed {b₁} c = go g.waiting refl
    where
      go : (W : List Key) → g.waiting ≡ W → Writes b₁ (on_table (cut_each n W g.table) st)
      go [] q = unfold cut_each in subst (λ (x : List ℕ). Writes x (on_table g.table st)) (sym (c.none (omega (arith, g.i_is, ap length q)))) g.writes
      go (a ∷ W) q =
          let l : length g.waiting ≡ suc (length W) = ap length q in
          let e₁ : key_out u from ≡ a = ap (λ (j : ℕ). key_out u j) (zero_more from) ∙ key-waiting 0 a (omega arith) ∙ ap (λ (x : List Key). get_or x 0 a) q in
          let e₂ : key_out u (i - 1) ≡ get_or (a ∷ W) (length W) a = ap (λ (j : ℕ). key_out u j) (last (length W) g.i_is l) ∙ key-waiting (length W) a (omega arith) ∙
          ap (λ (x : List Key). get_or x (length W) a) q in
          let rise : Rising g.lo ((a ∷ W) ++ g.rest) = rw q at g.rising in
          let ends = ends_of g.lo (length W) a W g.rest rise refl in
          let same : cut_each n (a ∷ W) g.table ≡ cuts n (between a (get_or (a ∷ W) (length W) a)) g.table =
          part_range n g.lo a (get_or (a ∷ W) (length W) a) (a ∷ W) g.rest g.table ends.low (rising_front g.lo (a ∷ W) g.rest rise) ends.part ends.behind bounded.ordered
          bounded.filled (rw q at g.within) in
          let w = c.some (omega (arith, g.i_is)) (on_table g.table st) g.sound g.writes tt in
          subst (λ (t : Table). Writes b₁ (on_table t st)) (ap (λ (k : Key). cuts n (between k (key_out u (i - 1))) g.table) e₁ ∙ ap (λ (k : Key). cuts n (between a k) g.table) e₂ ∙ sym same) w
        where
          zero_more : (x : ℕ) → x ≡ x + 0
          zero_more x = omega arith

          last : (y : ℕ) → i ≡ from + length g.waiting → length g.waiting ≡ suc y → i - 1 ≡ from + y
          last y p r = omega arith

  pub flushed_sound : Sound (on_table (cut_each n g.waiting g.table) st)
  flushed_sound = sound-table g.sound (bounded_each n g.lo g.waiting (rising_front g.lo g.waiting g.rest g.rising) bounded)

  -- ---- the next key waits

  module _ (late : now < word) {k : Key} (x : Next k) where
    rise : Rising g.lo (g.waiting ++ (k ∷ x.later))
    rise = rw x.is at g.rising

    pub next_small : k.hash < top
    next_small = (rising_at k x.later g.lo g.waiting rise).1

    before : Each (λ i. place i < place k) g.waiting
    before = rising-before k x.later g.lo g.waiting rise

    joins : (g.waiting ++ (k ∷ [])) ++ x.later ≡ g.waiting ++ g.rest
    joins = append_assoc g.waiting (k ∷ []) x.later ∙ ap (λ (l : List Key). g.waiting ++ l) (sym x.is)

    no_twin : Each (λ i. place i ≡ place (other k) → ⊥) g.waiting
    no_twin =
        let list : ks ≡ (g.done ++ g.waiting) ++ (k ∷ x.later) = g.all ∙ ap (λ (l : List Key). g.done ++ (g.waiting ++ l)) x.is ∙ sym (append_assoc g.done g.waiting (k ∷ x.later)) in
        let all = apart-keys n st g.first k next_small (held-at n st g.first (g.done ++ g.waiting) k x.later list) in
        each_front (λ i. place i ≡ place (other k) → ⊥) g.waiting g.rest (each_back (λ i. place i ≡ place (other k) → ⊥) g.done (g.waiting ++ g.rest) (rw g.all at all))

    waits_as : (t : Table) {b₁ : List ℕ} → Sound (on_table t st) → Writes b₁ (on_table t st) → Unowned n t (g.waiting ++ (k ∷ [])) → Within n g.lo (g.waiting ++ g.rest) t
        → drop_each (limits_of st) n now (g.waiting ++ g.rest) g.table ≡ drop_each (limits_of st) n now ((g.waiting ++ (k ∷ [])) ++ x.later) t → Going n now st u₀ b₁ u own from (i + 1) parents
    waits_as t s w free known same = record {
      first = g.first;
      room = g.room;
      table = t;
      sound = s;
      writes = w;
      acc = g.acc;
      typed = g.typed;
      done = g.done;
      waiting = g.waiting ++ (k ∷ []);
      rest = x.later;
      lo = g.lo;
      parents-are = g.parents-are;
      bytes = g.bytes;
      all = g.all ∙ ap (λ (l : List Key). g.done ++ l) (sym joins);
      own-are = g.own-are;
      from_is = g.from_is;
      i_is = omega (arith, g.i_is, length-append g.waiting (k ∷ []));
      rising = subst (Rising g.lo) (sym joins) g.rising;
      unowned = free;
      within = subst (λ (l : List Key). Within n g.lo l t) (sym joins) known;
      keys_left = g.keys_left ∙ ap (λ (l : Listed). g.acc ++ l.keys) same;
      table_left = g.table_left ∙ ap (λ (l : Listed). l.table) same;
    }

    pub turn_waits : {b₁ : List ℕ} → Rests n now k b₁ (on_table g.table st) → Going n now st u₀ b₁ u own from (i + 1) parents
    turn_waits {b₁} (inl f) = waits_as g.table g.sound f.1 (unowned_more n g.table g.waiting k g.unowned f.0) g.within
        (ap (λ (l : List Key). drop_each (limits_of st) n now l g.table) (sym joins))
    turn_waits {b₁} (inr f) =
        let t = g.table in
        let t' = eased n now k t in
        let free = eased-unowned n now g.waiting k t next_small (before-differ k g.waiting before) no_twin bounded.ordered bounded.filled g.unowned in
        let s = sound-table g.sound (bounded-eased n now k next_small late bounded) in
        let low = rising_front g.lo (g.waiting ++ (k ∷ [])) x.later (subst (Rising g.lo) (sym joins) g.rising) in
        let one = drop-eased (limits_of st) n now g.lo g.waiting k x.later t (rising_front g.lo g.waiting g.rest g.rising) g.unowned
        (before-listed k g.waiting before) next_small (before-differ k g.waiting before) no_twin bounded.ordered bounded.filled f.0 f.1 in
        let two = drop_part (limits_of st) n now g.lo (g.waiting ++ (k ∷ [])) x.later t' low free in
        waits_as t' s f.2 free (within-eased n g.lo now (g.waiting ++ g.rest) k t next_small bounded.ordered g.within)
        (ap (λ (l : List Key). drop_each (limits_of st) n now (g.waiting ++ l) t) x.is ∙ one ∙ sym two)
