-- A scan of rows for the time at which one is ready, and what the rows of a key say of it.
use Prim.Native.Nat.{ℕ, zero, suc, ◌+◌, ◌-◌, ◌≤◌, ◌<◌}
use mathlib.Core.Path.{◌≡◌, refl, ap, ◌∙◌}
use mathlib.Core.Bool.{Bool, true, false, or-true}
use mathlib.Core.List.{List, [], ◌∷◌, map}
use mathlib.Core.Option.{Option, none, some}
use native.Mathlib.Omega.{arith}
use lib.Dec.{leb}
use borrow.Author.Tests.{lt-ltb, lt-leb, le-leb}
use lib.ListN.{length, get_or}
use Rattle.std.specs.Prelude as rust
use Rattle.ident.specs.Number.{top, Key, place, txid, wtxid}
use Rattle.regions.specs.declared.Row.{Row}
use Rattle.machine.specs.State.{Candidate, Request, State, is_some}
use Rattle.machine.specs.Table.{at}
use Rattle.machine.specs.Later.{earlier, later, least_later, ready_times, any_ready, wait_in, wait_for}
use Rattle.machine.specs.Sound.{AllFit, Sound}
use Rattle.store.specs.Flat.{row_of, rows_for, rows_of}
use Rattle.store.specs.Gather.{candidate_at}
use Rattle.store.specs.Image.{Writes}
use Rattle.store.proofs.Bits.{candidate-row}
use Rattle.requests.specs.Changes.{Spans}
use Rattle.announcing.specs.Evicts.{part}
use Rattle.choosing.specs.Choosing.{option_of, free_wait}
use Rattle.choosing.proofs.Scanned.{part_more}
use Rattle.choosing.proofs.Keyed.{here, l, hash-owned, hash-free}

-- ---- a scan from the last row to the first

-- none of the rows rs is ready, and w is the least of their times
pub record NoneReady (now : ℕ) (rs : List Row) (w : rust.Option ℕ) : Type 0 where
  pub waiting : any_ready now (map candidate_at rs) ≡ false
  pub least : option_of w ≡ least_later now (ready_times (map candidate_at rs))

pub waits-told : (now : ℕ) (rs : List Row) (w : rust.Option ℕ) → NoneReady now rs w → option_of w ≡ wait_in now (map candidate_at rs)
waits-told now rs w k = rw (k.waiting, k.least) refl

pub none_in : (now : ℕ) (rs : List Row) → any_ready now (map candidate_at rs) ≡ true → none ≡ wait_in now (map candidate_at rs)
none_in now rs e = rw e refl

module _ (now : ℕ) (rs : List Row) (to : ℕ) where
  pub waits_none : (i : ℕ) → to ≤ i → NoneReady now (part i to rs) rust.None
  unfolding any_ready least_later
  waits_none i h = let z : to - i ≡ 0 = omega arith in rw z (record { waiting = refl; least = refl })

  pub waits-row : {r : Row} (d : Row) {j : ℕ} (i : ℕ) → j ≡ i + 1 → i < to → to ≤ length rs → r ≡ get_or rs i d → now < r.ready → {w v : rust.Option ℕ}
      → NoneReady now (part j to rs) w → option_of v ≡ earlier (some r.ready) (option_of w) → NoneReady now (part i to rs) v
  unfolding any_ready least_later candidate_at
  waits-row {r} d i e m h f late k g =
      rw (part_more rs i to d m h, ← f, ← e)
      (record { waiting = rw (lt-leb r.ready now late) k.waiting; least = g ∙ rw (k.least, lt-ltb now r.ready late) refl })

  -- a row that is ready, k rows behind the a-th
  pub ready_row : {r : Row} (d : Row) (i : ℕ) → i < to → to ≤ length rs → r ≡ get_or rs i d → r.ready ≤ now → (k a : ℕ) → a + k ≡ i → any_ready now (map candidate_at (part a to rs)) ≡ true
  unfolding any_ready candidate_at
  ready_row {r} d i m h f e zero a q =
      let q' : a ≡ i = omega (arith, q) in
      rw (part_more rs a to d (omega (arith, q, m)) h, q', ← f, le-leb r.ready now e) refl
  ready_row {r} d i m h f e (suc k) a q =
      rw (part_more rs a to d (omega (arith, q, m)) h, ready_row d i m h f e k (a + 1) (omega (arith, q))) (or-true (leb (get_or rs a d).ready now))

-- ---- the rows of a key

rows-candidates : (q : Request) (cs : List Candidate) → AllFit q.key cs → map candidate_at (map (row_of q) cs) ≡ cs
rows-candidates q [] f = refl
rows-candidates q (c ∷ cs) f = rw (candidate-row q c f.0.item, rows-candidates q cs f.1) refl

pub window-wait : {b : List ℕ} (now : ℕ) (st : State) (s : Sound st) (w : Writes b st) (k : Key) (small : k.hash < top) {x from to : ℕ} (num : x ≡ place k) (sp : Spans b x from to)
    → {o : Option ℕ} → o ≡ wait_in now (map candidate_at (part from to (rows_of st.table))) → o ≡ wait_in now (at k st.table).candidates
unfolding rows_for
window-wait now st s w k small num sp e =
    let q = at k st.table in
    e ∙ ap (λ (rs : List Row). wait_in now (map candidate_at rs)) (here st s w k small num sp) ∙ ap (wait_in now) (rows-candidates q q.candidates (l st s w k small num sp).candidates)

-- ---- a hash

module _ (now : ℕ) (st : State) (s : Sound st) (h : ℕ) (small : h < top) where
  pub wait-owned : (k : Key) → k.hash ≡ h → {x : Bool} → x ≡ is_some (at k st.table).owner → x ≡ true → {v : rust.Option ℕ} → v ≡ rust.None → option_of v ≡ free_wait now st.table (txid h)
  wait-owned k e f d z = rw (hash-owned now st s h small k e f d, z) refl

  pub wait-free : {x y : Bool} → x ≡ is_some (at (txid h) st.table).owner → y ≡ is_some (at (wtxid h) st.table).owner → x ≡ false → y ≡ false → {o a b : Option ℕ}
      → o ≡ earlier a b → a ≡ wait_in now (at (txid h) st.table).candidates → b ≡ wait_in now (at (wtxid h) st.table).candidates
      → o ≡ free_wait now st.table (txid h)
  unfolding wait_for
  wait-free f g d e q p r = rw (hash-free now st s h small f g d e) (q ∙ rw (p, r) refl)
