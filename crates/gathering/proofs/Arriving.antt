-- Those that wait come in: first their rows, then the tally.
use Prim.Native.Nat.{ℕ, ◌+◌, ◌≤◌, ◌<◌}
use mathlib.Core.Path.{◌≡◌, refl, sym, ap, subst, ◌∙◌}
use mathlib.Core.List.{List, [], ◌∷◌}
use native.Mathlib.Omega.{arith}
use lib.ListN.{length}
use lib.Seq.{take_all}
use Rattle.regions.specs.declared.Row.{Row}
use Rattle.regions.specs.declared.Conn.{Conn}
use Rattle.machine.specs.Limits.{max_announcements}
use Rattle.machine.specs.State.{Entry, State}
use Rattle.machine.specs.Sound.{Sound}
use Rattle.store.specs.Flat.{Flat, flat_of, rows_of, tally}
use Rattle.store.specs.Counting.{raise}
use Rattle.store.specs.Image.{Shows, Writes}
use Rattle.store.specs.Shown.{conns_in, limit_in, rows_in, Shown, with_conns, with_rows, Tallies}
use Rattle.store.proofs.Counts.{held-rows}
use Rattle.store.proofs.Entries.{tally-length}
use Rattle.store.proofs.Frame.{sizes, shown}
use Rattle.requests.proofs.Keeping.{kept_shown, rows_in_order, conns_in_order, sized_of, light_of}
use Rattle.gathering.specs.Coming.{counted, Uncounted, CountedTo}
use Rattle.gathering.specs.Merges.{merged, gathered, RowsAdded}
use Rattle.gathering.specs.Waits.{pushes}
use Rattle.gathering.specs.Aside.{space, Mixed, Gathers, GathersAll, ComeIn, ComeInAll}
use Rattle.gathering.proofs.ComingIn.{bare-gathered, all_in, came_in}
use Rattle.gathering.proofs.InOrder.{sorted-gathered}
use Rattle.gathering.proofs.Looking.{few_rows}
use Rattle.gathering.proofs.Merging.{length_merged, merged_none}

pub nobody_in : {b w : List ℕ} {n m : ℕ} → m ≡ 0 → ComeIn b b n w m
unfolding pushes
nobody_in e st s g [] a = g
nobody_in e st s g (x ∷ es) a = absurd (omega (arith, a.mixed.count))

-- rows with those of es, whatever sound state the bytes write
with_rows_lem : {b b₁ w : List ℕ} {m : ℕ} → RowsAdded b b₁ w m → (st : State) → Sound st → Writes b st → {es : List Entry} → Mixed st.table es w m
    → Shows b₁ (with_rows (merged (rows_of st.table) (gathered st.table es [])) (flat_of st))
with_rows_lem r st s g {es} a = r (flat_of st) g (rows_in_order st s) space (gathered st.table es []) (few_rows a) (sorted-gathered st.table es) a.rows

-- none of them is counted
not_counted : {b : List ℕ} (f : Flat) (ys : List Row) → f.conns ≡ tally f.rows → Shows b (with_rows (merged f.rows ys) f) → Shows b (counted f ys 0)
not_counted {b} f ys e h =
    subst (λ (cs : List Conn). Shows b (with_conns cs (with_rows (merged f.rows ys) f))) (e ∙ ap tally (sym (merged_none f.rows))) h

-- those of one connection are some of any
pub of_one : {b w : List ℕ} {n m : ℕ} → Gathers b n w m → GathersAll b w m
of_one g = record { state = g.state; sound = g.sound; writes = g.writes; entries = g.entries; mixed = g.aside.mixed; room = g.room }

module _ {b w : List ℕ} {m : ℕ} (g : GathersAll b w m) where
  pub room_for : Shown b × (rows_in b + m ≤ limit_in b)
  room_for =
      let z = sizes g.writes in
      (kept_shown (record { state = g.state; sound = g.sound; writes = g.writes }), omega (arith, z.rows, z.limit, held-rows g.state.table, g.room))

  pub with_shown : {b₁ : List ℕ} → RowsAdded b b₁ w m → (m ≡ 0 → ⊥) → Shown b₁ × (conns_in b₁ < limit_in b₁) × (1 ≤ m) × (m ≤ max_announcements)
  with_shown r p =
      let st = g.state in
      let h = with_rows_lem r st g.sound g.writes g.mixed in
      let z = sized_of st g.sound in
      let y = sizes h in
      let n = length_merged (rows_of st.table) (gathered st.table g.entries []) in
      let l = few_rows g.mixed in
      let q = held-rows st.table in
      let few : length (rows_of st.table) + m ≤ st.limit = omega (arith, g.room) in (
        shown h (record { limit = z.limit; places = z.places; rows_few = omega arith; conns_few = z.conns_few; places_few = z.places_few }) (light_of st g.sound),
        omega (arith, y.conns, y.limit, tally-length (rows_of st.table)),
        omega arith,
        omega (arith, z.limit),
      )

  pub uncounted : {b₁ : List ℕ} → RowsAdded b b₁ w m → Uncounted b₁ w m
  uncounted {b₁} r =
      let t = g.state.table in
      record {
        flat = flat_of g.state;
        sized = sized_of g.state g.sound;
        rows = gathered t g.entries [];
        count = few_rows g.mixed;
        bare = bare-gathered t g.entries g.mixed.idle;
        space = space;
        holds = g.mixed.rows;
        room = omega (arith, g.room, held-rows t);
        shows = not_counted (flat_of g.state) (gathered t g.entries []) refl (with_rows_lem r g.state g.sound g.writes g.mixed);
      }

-- ---- counted once for all of them, or each

-- st with these connections, and rows with those of es
abbrev Among : State → List Entry → List Conn → Flat
Among st es cs = with_conns cs (with_rows (merged (rows_of st.table) (gathered st.table es [])) (flat_of st))

pub arrived : {b b₁ b₂ w : List ℕ} {n m : ℕ} → RowsAdded b b₁ w m → Tallies b₁ b₂ (raise n m) → ComeIn b b₂ n w m
arrived {b} {b₁} {b₂} {w} {n} {m} r k st s g es a =
    let cs = tally (rows_of st.table) in
    let h : Shows b₂ (Among st es (raise n m cs)) = k _ (conns_in_order (rows_of st.table)) (with_rows_lem r st s g a.mixed) in
    came_in st s es a.mixed.ready n a.mine a.mixed.idle (subst (λ (d : ℕ). Shows b₂ (Among st es (raise n d cs))) (sym a.mixed.count) h)

pub all_arrived : {b b₁ b₂ w : List ℕ} {m : ℕ} → RowsAdded b b₁ w m → CountedTo b₁ b₂ w m m → ComeInAll b b₂ w m
all_arrived {b} {b₁} {b₂} {w} {m} r k st s g es a =
    let ys = gathered st.table es [] in
    let l = few_rows a in
    let h : Shows b₂ (counted (flat_of st) ys m) = k (flat_of st) space ys l (bare-gathered st.table es a.idle) a.rows (not_counted (flat_of st) ys refl (with_rows_lem r st s g a)) in
    all_in st s es a.ready (subst (λ (zs : List Row). Shows b₂ (Among st es (tally (merged (rows_of st.table) zs)))) (take_all m ys (omega (arith, l))) h)
