-- The first line, the lines behind it, and the connections: the whole store.
use Prim.Native.Nat.{ℕ, ◌≤◌}
use mathlib.Core.Path.{◌≡◌, sym, ap, subst, ◌∙◌}
use mathlib.Core.List.{List}
use native.Mathlib.Omega.{arith}
use Rattle.machine.specs.Limits.{need, max_announcements, max_places}
use Rattle.machine.specs.State.{State, on_table}
use Rattle.machine.specs.Sound.{Sound}
use Rattle.store.specs.Flat.{tally}
use Rattle.store.specs.Image.{Shows}
use Rattle.store.specs.Shown.{conns_in, Shown, with_conns, Turns}
use Rattle.store.proofs.Frame.{sizes, shown}
use Rattle.store.proofs.Counts.{held-rows, places-rows}
use Rattle.listed_lines.specs.declared.line.Head as line-head
use Rattle.listed_lines.specs.Given.{head_state}
use Rattle.listed_form.specs.Given.{Body, requests_only}
use Rattle.restoring.specs.Given.{bare, untallied, Headed, Readable, Restored}

-- ---- the header, then the lines, then the connections

pub head-fits : {text : List ℕ} {h : line-head.Head} {e n : ℕ} → Readable text h e n → (h.limit ≤ max_announcements) × (h.places ≤ max_places) × (n ≡ need h.limit h.places)
head-fits {h = h} z =
    let l : z.state.limit ≡ h.limit = ap (λ (s : State). s.limit) z.head in
    let q : z.state.places ≡ h.places = ap (λ (s : State). s.places) z.head in
    (omega (arith, l, z.sound.most-limit), omega (arith, q, z.sound.most-places), z.needs ∙ (λ i. need (l i) (q i)))

-- the header of a state is that of its first line
state-bare : {b : List ℕ} (h : line-head.Head) (st : State) → st ≡ on_table st.table (head_state h) → Shows b (bare (head_state h)) → Shows b (bare st)
state-bare {b} h st e x = subst (λ (s : State). Shows b (bare s)) (sym e) x

pub head_there : {text b : List ℕ} {h : line-head.Head} {e n : ℕ} → Readable text h e n → Shows b (bare (head_state h)) → Headed text e b
head_there {h = h} z x = record { state = z.state; sound = z.sound; body = z.body; shows = state-bare h z.state z.head x }

-- what stands before the connections are counted
module _ {b : List ℕ} (st : State) (s : Sound st) (x : Shows b (untallied st)) where
  pub lines-shown : Shown b
  lines-shown =
      shown x (record {
        limit = s.most-limit;
        places = s.most-places;
        rows_few = omega (arith, held-rows st.table, s.bounded.fits);
        conns_few = omega arith;
        places_few = omega (arith, places-rows st.table, s.bounded.room);
      }) tt

  pub no-conns : conns_in b ≡ 0
  no-conns = (sizes x).conns

-- the store when all lines are in it
module _ {text b₀ b₁ : List ℕ} (h : line-head.Head) {e : ℕ} (x : Shows b₀ (bare (head_state h)))
    (lines : (st : State) → Sound st → Body text e (requests_only st.table) → Shows b₀ (bare st) → Shows b₁ (untallied st)) where
  pub lines_there : {n : ℕ} → (z : Readable text h e n) → Shows b₁ (untallied z.state)
  lines_there z = lines z.state z.sound z.body (state-bare h z.state z.head x)

  pub restored : {b₂ : List ℕ} → Turns b₁ b₂ (λ f. with_conns (tally f.rows) f) → Restored text h e b₂
  restored turn st s d y = turn (untallied st) (lines st s y (state-bare h st d x))
