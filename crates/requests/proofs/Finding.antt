-- What it says of a connection that it has a row among those of a key, or none.
use Prim.Native.Nat.{ℕ, ◌<◌}
use mathlib.Core.Path.{◌≡◌, sym, ◌∙◌}
use mathlib.Core.List.{List}
use native.Mathlib.Omega.{arith}
use lib.ListN.{length}
use borrow.Author.Tests.{lt-ltb, le-ltb}
use Rattle.std.specs.Prelude.{Option, Some, None, is_some}
use Rattle.ident.specs.Number.{top, Key, place}
use Rattle.machine.specs.State.{State}
use Rattle.machine.specs.Table.{at, has}
use Rattle.machine.specs.Sound.{Sound}
use Rattle.store.specs.Flat.{flat_of}
use Rattle.store.specs.Image.{Writes}
use Rattle.store.specs.Shown.{rows_in, FoundMet}
use Rattle.store.proofs.RowsAt.{Among, ahead}
use Rattle.requests.specs.Changes.{Spans, Found, Missing, FoundAmong}
use Rattle.requests.proofs.Cutting.{ahead_in, found_at}
use Rattle.requests.proofs.Holding.{holds_by}
use Rattle.requests.proofs.Keeping.{from_at, to_at}

-- found or not in the window of a key
pub found_among : {b : List ℕ} {x from to : ℕ} (n : ℕ) → Spans b x from to → (r : Option ℕ) → FoundMet b from to n r → FoundAmong b x n r
found_among {from = from} {to = to} n s None m = record { from = from; to = to; spans = s; met = m }
found_among {from = from} {to = to} n s (Some i) m = record { from = from; to = to; spans = s; met = m.0; inside = m.1 }

pub found-within : {b : List ℕ} {x n i : ℕ} → Found b x n i → i < rows_in b
found-within z = omega (arith, z.spans.most, z.inside)

module _ (st : State) (s : Sound st) (k : Key) (small : k.hash < top) {x : ℕ} (e : x ≡ place k) {b : List ℕ} (w : Writes b st) (n : ℕ) where
  -- a candidate has a row, and it is the first of the connection
  module _ (f : Among n (at k st.table).candidates) where
    pub found-ahead : {i : ℕ} → Found b x n i → i ≡ length (ahead k n 0 st.table s.bounded.ordered f)
    found-ahead z =
        found_at k n 0 st.table s.bounded.ordered f (from_at st s k small e (z.spans.from_is st s w)) (to_at st s k small e (z.spans.to_is st s w)) (z.met.first (flat_of st) w)

    pub never-missing : Missing b x n → ⊥
    never-missing z =
        let to = to_at st s k small e (z.spans.to_is st s w) in
        let i = found_at k n 0 st.table s.bounded.ordered f (from_at st s k small e (z.spans.from_is st s w)) to (z.met.first (flat_of st) w) in
        omega (arith, ahead_in k n 0 st.table s.bounded.ordered f)

  pub found_holds : (r : Option ℕ) → FoundAmong b x n r → is_some r ≡ has n (at k st.table).candidates
  found_holds None z =
      sym (le-ltb z.to z.to (omega arith))
      ∙ holds_by k n 0 st.table s.bounded.ordered (from_at st s k small e (z.spans.from_is st s w)) (to_at st s k small e (z.spans.to_is st s w)) (z.met.first (flat_of st) w)
  found_holds (Some i) z =
      sym (lt-ltb i z.to z.inside)
      ∙ holds_by k n 0 st.table s.bounded.ordered (from_at st s k small e (z.spans.from_is st s w)) (to_at st s k small e (z.spans.to_is st s w)) (z.met.first (flat_of st) w)
