-- disconnected: its start, its end, and its answer.
use Prim.Native.Nat.{ℕ, min, ◌+◌, ◌*◌, ◌≤◌, ◌<◌}
use mathlib.Core.Path.{◌≡◌, refl, sym, ap, subst, ◌∙◌}
use mathlib.Core.Logic.{inl, inr}
use mathlib.Core.Bool.{false}
use mathlib.Core.List.{List, [], ◌∷◌, ◌++◌, append-nil}
use mathlib.Core.Option.{Option, none, some}
use native.Mathlib.Omega.{arith}
use lib.Dec.{eqb}
use lib.ListN.{length, length-append}
use Rattle.ident.specs.Number.{Key, place}
use Rattle.machine.specs.Limits.{word, max_peer_announcements, max_parents}
use Rattle.machine.specs.State.{Owner, Request, State, Table, limits_of, on_table, owner_is}
use Rattle.machine.specs.Table.{at, one, owner_in, owned_by, total}
use Rattle.machine.specs.Call.{key_bytes}
use Rattle.machine.specs.Fail.{Listed, nothing}
use Rattle.machine.specs.Leave.{keys_of, drop_each, sort_keys, disconnected}
use Rattle.machine.specs.Sound.{Sound}
use Rattle.machine.specs.Step.{keys_answer, written}
use Rattle.machine.proofs.Tests.{test, by_test}
use Rattle.machine.proofs.Lengths.{length-disconnected}
use Rattle.store.specs.Image.{Writes}
use Rattle.store.specs.Shown.{limit_in, places_in, Kept}
use Rattle.store.proofs.Frame.{sizes}
use Rattle.cutting.specs.Cuts.{cut_each}
use Rattle.leaving.specs.Parts.{Unowned, OwnKeys}
use Rattle.leaving.specs.Parting.{CutListed, Idle, Going, Ended, Parted}
use Rattle.leaving.proofs.Parts.{rising_all, within_start, rising_front, drop_none}
use Rattle.leaving.proofs.Segments.{drop_part}
use Rattle.merging.proofs.Merging.{length_over, written_over}
use Rattle.leaving.proofs.Walking.{counted, flushed}

-- ---- who owns nothing

owns_not : (n : ℕ) (o : Option Owner) → owner_in (λ m. eqb m n) o ≡ 0 → owner_is n o ≡ false
owns_not n none h = refl
owns_not n (some o) h = elim (test (eqb o.connection n)) [ inl e ↦ absurd (omega (arith, ap one e)) | inr e ↦ e ]

at_idle : (n : ℕ) (k : Key) (t : Table) → owned_by n t ≡ 0 → owner_is n (at k t).owner ≡ false
unfolding at total
at_idle n k [] h = refl
at_idle n k (r ∷ t) h = by_test (λ (q : Request). owner_is n q.owner ≡ false) (eqb (place k) (place r.key)) (λ e. owns_not n r.owner (omega arith)) (λ e. at_idle n k t (omega arith))

none_owned : (n : ℕ) (t : Table) → owned_by n t ≡ 0 → (ks : List Key) → Unowned n t ks
none_owned n t h [] = tt
none_owned n t h (k ∷ ks) = (at_idle n k t h, none_owned n t h ks)

-- ---- the start

-- the need of the call
abbrev pub Need : List ℕ → List ℕ → Type 0
Need b u = key_bytes * (min max_peer_announcements (limit_in b) + max_parents * places_in b) ≤ length u

module _ (n now : ℕ) (late : now < word) (st : State) (s : Sound st) {b : List ℕ} (w : Writes b st) where
  pub room_is : (u : List ℕ) → Need b u → key_bytes * length (keys_of n st.table ++ sort_keys (drop_each (limits_of st) n now (keys_of n st.table) st.table).keys) ≤ length u
  unfolding disconnected
  room_is u h =
      let z = sizes w in
      let l = length-disconnected {m = limits_of st} {Q = st.places} {t = st.table} n now late s.bounded in
      omega (arith, h, l, z.limit, z.places)

  pub going_start : (u : List ℕ) (own : ℕ) → own ≡ length (keys_of n st.table) → u ≡ written (keys_answer (keys_of n st.table)) u → Need b u → Going n now st u b u own 0 0 0
  unfolding sort_keys
  going_start u own e q h = record {
    first = s;
    room = room_is u h;
    table = st.table;
    sound = s;
    writes = w;
    acc = [];
    typed = tt;
    done = [];
    waiting = [];
    rest = keys_of n st.table;
    lo = 0;
    parents-are = refl;
    bytes = q ∙ ap (λ (l : List Key). written (keys_answer l) u) (sym (append-nil (keys_of n st.table)));
    all = refl;
    own-are = e;
    from_is = refl;
    i_is = refl;
    rising = rising_all n st.table s.bounded.ordered;
    unowned = tt;
    within = within_start n st.table s.bounded.ordered;
    keys_left = refl;
    table_left = refl;
  }

  -- n owns nothing: all of its keys wait
  pub going-idle : (u : List ℕ) (own : ℕ) → own ≡ length (keys_of n st.table) → u ≡ written (keys_answer (keys_of n st.table)) u → Need b u → owned_by n st.table ≡ 0
      → Going n now st u b u own 0 own 0
  unfolding sort_keys
  going-idle u own e q h z =
      let ks = keys_of n st.table in
      let same : ks ++ [] ≡ ks = append-nil ks in
      record {
        first = s;
        room = room_is u h;
        table = st.table;
        sound = s;
        writes = w;
        acc = [];
        typed = tt;
        done = [];
        waiting = ks;
        rest = [];
        lo = 0;
        parents-are = refl;
        bytes = q ∙ ap (λ (l : List Key). written (keys_answer l) u) (sym same);
        all = sym same;
        own-are = e;
        from_is = refl;
        i_is = omega arith;
        rising = rw same (rising_all n st.table s.bounded.ordered);
        unowned = none_owned n st.table z ks;
        within = rw same (within_start n st.table s.bounded.ordered);
        keys_left = ap (λ (l : List Key). (drop_each (limits_of st) n now l st.table).keys) (sym same);
        table_left = ap (λ (l : List Key). (drop_each (limits_of st) n now l st.table).table) (sym same);
      }

  pub going_first : (u : List ℕ) (own : ℕ) {i : ℕ} → own ≡ length (keys_of n st.table) → u ≡ written (keys_answer (keys_of n st.table)) u → Need b u → Idle n b own i
      → Going n now st u b u own 0 i 0
  going_first u own e q h (inl z) = rw z (going_start u own e q h)
  going_first u own e q h (inr z) = rw z.0 (going-idle u own e q h (z.1 st s w))

  -- its own keys stand in the buffer
  pub own_again : {u u₁ : List ℕ} {own : ℕ} → OwnKeys n b u u₁ own → Need b u → (length u₁ ≡ length u) × (u₁ ≡ written (keys_answer (keys_of n st.table)) u₁)
  own_again {u} {u₁} o h =
      let ks = keys_of n st.table in
      let r : key_bytes * length ks ≤ length u = omega (arith, room_is u h, length-append ks (sort_keys (drop_each (limits_of st) n now ks st.table).keys)) in
      let e = o.keys st s w in
      (ap length e ∙ length_over ks u r, e ∙ sym (ap (written (keys_answer ks)) e ∙ written_over ks ks u (omega arith) r))

  pub parted-keys : {u u₁ u₂ : List ℕ} {own : ℕ} → OwnKeys n b u u₁ own → Need b u → (ps : List Key) → u₂ ≡ written (keys_answer (keys_of n st.table ++ ps)) u₁
      → u₂ ≡ written (keys_answer (keys_of n st.table ++ ps)) u
  parted-keys {u} {u₁} o h ps e =
      let ks = keys_of n st.table in
      let r : key_bytes * length ks ≤ length u = omega (arith, room_is u h, length-append ks (sort_keys (drop_each (limits_of st) n now ks st.table).keys)) in
      e ∙ ap (written (keys_answer (ks ++ ps))) (o.keys st s w) ∙ written_over ks (ks ++ ps) u (omega (arith, length-append ks ps)) r

-- ---- on the way

module _ {n now : ℕ} {st : State} {u₀ b u : List ℕ} {own from i parents : ℕ} (g : Going n now st u₀ b u own from i parents) where
  pub inside : i ≤ own
  inside = omega (arith, counted g, g.own-are, g.from_is, g.i_is)

  pub store_long : {b₀ : List ℕ} → Writes b₀ st → length b ≡ length b₀
  store_long w = (sizes g.writes).long ∙ sym (sizes w).long

  -- ---- the end

  pub ended : own ≤ i → {b₁ : List ℕ} → CutListed n u from own b b₁ → Ended n now st u₀ u b₁ parents
  unfolding disconnected
  ended h {b₁} c =
      let same : i ≡ own = omega (arith, inside) in
      let m = limits_of st in
      let ks = keys_of n st.table in
      let none : g.rest ≡ [] = empty g.rest (omega (arith, counted g, g.own-are, g.from_is, g.i_is)) in
      let c₁ : CutListed n u from i b b₁ = subst (λ (j : ℕ). CutListed n u from j b b₁) (sym same) c in
      let last : drop_each m n now (g.waiting ++ g.rest) g.table ≡ nothing (cut_each n g.waiting g.table) =
      ap (λ (l : List Key). drop_each m n now (g.waiting ++ l) g.table) none ∙ drop_part m n now g.lo g.waiting [] g.table (rising_front g.lo g.waiting g.rest g.rising)
      g.unowned ∙ drop_none m n now (cut_each n g.waiting g.table) in
      let keys : (drop_each m n now ks st.table).keys ≡ g.acc = g.keys_left ∙ ap (λ (l : Listed). g.acc ++ l.keys) last ∙ append-nil g.acc in
      let table : (drop_each m n now ks st.table).table ≡ cut_each n g.waiting g.table = g.table_left ∙ ap (λ (l : Listed). l.table) last in
      record {
        count = g.parents-are ∙ ap (λ (l : List Key). length (sort_keys l)) (sym keys);
        keys = g.bytes ∙ ap (λ (l : List Key). written (keys_answer (ks ++ sort_keys l)) u₀) (sym keys);
        table = subst (λ (t : Table). Writes b₁ (on_table t st)) (sym table) (flushed g c₁);
      }
    where
      empty : (l : List Key) → length l ≤ 0 → l ≡ []
      empty [] z = refl
      empty (k ∷ l) z = absurd (omega arith)

-- ---- the call

module _ (n now : ℕ) (late : now < word) {b u u₁ : List ℕ} {own : ℕ} where
  pub parted-asks : Kept b → Need b u → OwnKeys n b u u₁ own → Kept b × Need b u₁ × OwnKeys n b u₁ u₁ own
  parted-asks k h o =
      let z = own_again n now late k.state k.sound k.writes o h in
      (k, omega (arith, h, z.0), record { count = o.count; keys = λ st s w. (own_again n now late st s w o h).1 })

  pub parted : Need b u → OwnKeys n b u u₁ own → {b₂ u₂ : List ℕ} {r : ℕ} → ((st : State) → Sound st → Writes b st → Ended n now st u₁ u₂ b₂ r)
      → Parted b b₂ u u₂ (record { own = own; parents = r }) (λ st. disconnected (limits_of st) n now st.table)
  unfolding disconnected
  parted h o e = record {
    own = λ st s w. o.count st s w;
    parents = λ st s w. (e st s w).count;
    keys = λ st s w. parted-keys n now late st s w o h (sort_keys (drop_each (limits_of st) n now (keys_of n st.table) st.table).keys) (e st s w).keys;
    table = λ st s w. (e st s w).table;
  }
