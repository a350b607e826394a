-- The second phase of a plan: from the first key to the answer.
use Prim.Native.Nat.{ℕ, min, ◌+◌, ◌-◌, ◌*◌, ◌<◌, ◌≤◌}
use mathlib.Core.Path.{◌≡◌, sym, subst, ◌∙◌}
use mathlib.Core.List.{List, map}
use mathlib.Core.Option.{Option}
use native.Mathlib.Omega.{arith}
use lib.ListN.{length, get_or, take}
use lib.Seq.{length-take-le}
use Rattle.std.proofs.lemmas.List.{get_or-take}
use Rattle.ident.specs.Number.{Key}
use Rattle.machine.specs.Call.{entry_bytes}
use Rattle.machine.specs.Limits.{max_request_checks}
use Rattle.machine.specs.State.{Entry, State, on_table, with_ready_cursor}
use Rattle.machine.specs.Table.{keys}
use Rattle.machine.specs.Plan as machine
use Rattle.machine.specs.Claim.{elem}
use Rattle.machine.specs.Sound.{Sound}
use Rattle.machine.specs.Sweep.{round}
use Rattle.machine.specs.Typed.{Each, KeyTyped}
use Rattle.machine.proofs.Chosen.{sparse_phase, sparse_held, length-phase}
use Rattle.machine.proofs.Plan.{keys-typed, round-typed}
use Rattle.machine.proofs.Tests.{never}
use Rattle.store.specs.Flat.{flat_of, rows_of}
use Rattle.store.specs.Image.{Writes, Bytes}
use Rattle.store.specs.Shown.{limit_in, Kept}
use Rattle.store.proofs.Frame.{sizes}
use Rattle.store.proofs.Stored.{written_bytes}
use Rattle.announcing.specs.Evicts.{entry_at}
use Rattle.cursors.specs.InWords.{Stands}
use Rattle.selecting.specs.declared.Scan.{Scan}
use Rattle.selecting.specs.Selecting.{Fresh, mark_all, until, Marks, Numbered, Scanning, Marked, GivenBack, RowsOfStore, EntriesPut}
use Rattle.selecting.specs.Phasing.{Phased}
use Rattle.selecting.specs.Ordering.{SortedRows}
use Rattle.planning.specs.Replying.{Closed, Begun, AsksOf}
use Rattle.selecting.proofs.GivingBack.{some_entry}
use Rattle.selecting.proofs.SameRows.{marked-rows, numbered_as}

-- ---- before the first key

pub fresh-scan : {b p : List ℕ} (now : ℕ) (st : State) (v : Scan) → Fresh v → Sound st → Writes b st → Scanning now st machine.start b p v
unfolding mark_all
fresh-scan now st v f s w = record {
  sound = s;
  marks = record { sound = s; writes = w; free = tt; count = f.chosen; numbers = λ j d h. absurd (omega (arith, h, f.chosen)) };
  considered = f.considered;
  last = f.last;
}

-- ---- after the last

module _ {b p : List ℕ} {now n : ℕ} {st : State} {l : List Entry} (s : Sound st) (m : Marks now st l b p n) where
  same : map entry_at (rows_of st.table) ≡ map entry_at (rows_of (mark_all (until now) l st.table))
  same = sym (marked-rows (until now) l st.table s.bounded.ordered m.free)

  numbers_in : RowsOfStore b p n
  numbers_in j h =
      let e = some_entry l (omega (arith, m.count)) in
      let g : Numbered (rows_of (mark_all (until now) l st.table)) (get_or p j 0) (get_or l j e) = numbered_as same (m.numbers j e h) in
      omega (arith, g.inside, (sizes m.writes).rows)

pub rows-of : {b p : List ℕ} {n : ℕ} → Marked b p n → Kept b × RowsOfStore b p n
rows-of m = (
  record { state = on_table (mark_all (until m.clock) m.chosen m.state.table) m.state; sound = m.marks.sound; writes = m.marks.writes },
  numbers_in m.sound m.marks,
)

-- the first n numbers by themselves
module _ (p : List ℕ) {n : ℕ} (h : n ≤ length p) where
  pub front-long : length (take n p) ≡ n
  front-long = length-take-le n p h

  front-number : (j : ℕ) → j < length (take n p) → get_or (take n p) j 0 ≡ get_or p j 0
  front-number j l = get_or-take n p j 0 (omega (arith, front-long))

  pub front_marks : {now : ℕ} {st : State} {l : List Entry} {b : List ℕ} → Marks now st l b p n → Marks now st l b (take n p) (length (take n p))
  front_marks {now} {st} {l} m = record {
    sound = m.sound;
    writes = m.writes;
    free = m.free;
    count = front-long ∙ m.count;
    numbers = λ j d k. subst (λ (i : ℕ). Numbered (rows_of st.table) i (get_or l j d)) (sym (front-number j k)) (m.numbers j d (omega (arith, front-long)));
  }

  pub front_marked : {b : List ℕ} → Marked b p n → Marked b (take n p) (length (take n p))
  front_marked m = record { clock = m.clock; state = m.state; chosen = m.chosen; sound = m.sound; marks = front_marks m.marks }

  pub front_closed : {b b' : List ℕ} (u : List ℕ) {u' : List ℕ} → Closed b b' (take n p) (length (take n p)) u u' → Closed b b' p n u u'
  front_closed u x now st l s m = x now st l s (front_marks m)

pub closed : {b b' p q : List ℕ} (u : List ℕ) {u' : List ℕ} {n : ℕ} → n ≤ length q → SortedRows b p n q → EntriesPut b (take n q) (length (take n q)) u u' → GivenBack b b' p n
    → Closed b b' p n u u'
closed {q = q} u k z e g now st l s m =
    let f = flat_of (on_table (mark_all (until now) l st.table) st) in
    let a = z.sorted f l m.writes (record { count = m.count; numbers = λ j d h. numbered_as (same s m) (m.numbers j d h) }) in (
      g now st l s m,
      e f (machine.sort_by_priority l) m.writes (front-long q k ∙ a.count)
          (λ j d h. subst (λ (i : ℕ). Numbered f.rows i (get_or (machine.sort_by_priority l) j d)) (sym (front-number q k j h)) (a.numbers j d (omega (arith, front-long q k)))),
    )

-- the store is byte for byte the one before the scan
pub unchanged : {b b₁ b₂ p : List ℕ} {now n : ℕ} {st : State} {l : List Entry} → Bytes b → Bytes b₂ → Writes b st → Sound st → Marks now st l b₁ p n → GivenBack b₁ b₂ p n → b₂ ≡ b
unchanged {b} {b₂ = b₂} {now = now} {st = st} {l} x y w s m g = written_bytes b₂ st y (g now st l s m) ∙ sym (written_bytes b st x w)

-- ---- the phase, and what comes after it

abbrev keys_for : Option (List Key) → State → List Key
keys_for asked st = machine.asked_keys asked st.ready_cursor st.table

pub round-keys : (st : State) → Sound st → Each KeyTyped (round st.ready_cursor (keys st.table))
round-keys st s = round-typed st.ready_cursor (keys st.table) (keys-typed 0 st.table s.bounded.ordered)

-- some first phase stands
module _ {now : ℕ} {b p : List ℕ} {v : Scan} (g : Begun now b p v) where
  pub begun_kept : Kept b
  begun_kept = record { state = on_table (mark_all (until now) _ g.state.table) g.state; sound = g.stands.marks.sound; writes = g.stands.marks.writes }

  first_few : length (machine.phase now g.state.table g.some-keys machine.start).chosen ≤ max_request_checks
  first_few = length-phase now g.state.table g.some-keys machine.start (max_request_checks - 1) (omega arith) (omega arith) (omega arith)

  pub begun_few : v.chosen ≤ max_request_checks
  begun_few = let e = first_few in omega (arith, g.stands.marks.count)

module _ {b b₁ p p₁ : List ℕ} {now n : ℕ} {v w : Scan} (asked : Option (List Key)) (x : Phased b b₁ p p₁ now (keys_for asked) v w n) where
  abbrev end : State → machine.Scan → machine.Scan
  end st c = machine.phase now st.table (keys_for asked st) c

  pub marked-after : Begun now b p v → Marked b₁ p₁ w.chosen
  marked-after g =
      let y = x.goes g.state _ g.stands in
      record { clock = now; state = g.state; chosen = _; sound = y.sound; marks = y.marks }

  pub few_chosen : ((st : State) → Sound st → Each KeyTyped (keys_for asked st)) → Begun now b p v → w.chosen ≤ min (max_request_checks + 1) (limit_in b)
  unfolding elem
  few_chosen typed g =
      let st = g.state in
      let t = st.table in
      let q = g.stands.sound.bounded in
      let c = machine.phase now t g.some-keys machine.start in
      let few = length-phase now t (keys_for asked st) c max_request_checks (first_few g) (omega arith) (omega arith) in
      let sparse = sparse_held t (end st c).chosen q.filled
      (sparse_phase now t (keys_for asked st) c (typed st g.stands.sound) q.ordered (sparse_phase now t g.some-keys machine.start g.typed q.ordered (record {
        distinct = tt;
        within = λ x e. never e;
      }))) in
      omega (arith, (x.goes st c g.stands).marks.count, few, sparse, q.fits, (sizes g.stands.marks.writes).limit)

  -- what is selected can be written, and given back
  pub few_left : ((st : State) → Sound st → Each KeyTyped (keys_for asked st)) → Begun now b p v → max_request_checks < length p → length p₁ ≡ length p
      → (u : List ℕ) → entry_bytes * min (max_request_checks + 1) (limit_in b) ≤ length u
      → Marked b₁ (take w.chosen p₁) (length (take w.chosen p₁)) × (length (take w.chosen p₁) ≤ max_request_checks + 1) × (entry_bytes * length (take w.chosen p₁) ≤ length u)
  few_left typed g long kept u room =
      let h : w.chosen ≤ length p₁ = omega (arith, x.most, kept, long) in
      let n = front-long p₁ h in
      (front_marked p₁ h (marked-after g), omega (arith, n, x.most), omega (arith, n, few_chosen typed g, room))

  -- what is left to do is the ready cursor
  pub planned : {b₂ b₃ : List ℕ} → max_request_checks < length p → length p₁ ≡ length p → (u : List ℕ) → {u' : List ℕ}
      → Closed b₁ b₂ (take w.chosen p₁) (length (take w.chosen p₁)) u u'
      → ((st : State) (k : Option Key) → Stands w.last k → Writes b₂ st → Writes b₃ (with_ready_cursor (machine.cursor_after asked k st.ready_cursor) st))
      → AsksOf b b₃ p u u' now asked v (record { count = w.chosen; considered = w.considered })
  planned {b₂} {b₃} long kept u {u'} y z st c o =
      let g = x.goes st c o in
      let d = front_closed p₁ (omega (arith, x.most, kept, long)) u y now st (end st c).chosen g.sound g.marks in
      record { count = g.marks.count; entries = d.1; considered = g.considered; state = z st (end st c).last g.last d.0 }
