-- Records that pass the tests are those of a sound state.
use Prim.Native.Nat.{ℕ, ◌≤◌}
use mathlib.Core.Path.{◌≡◌, ◌∙◌}
use mathlib.Core.Logic.{inl, inr}
use mathlib.Core.List.{List, [], ◌∷◌}
use native.Mathlib.Omega.{arith}
use lib.Dec.{eqb}
use Rattle.regions.specs.declared.Conn.{Conn}
use Rattle.machine.specs.Limits.{max_peer_announcements, max_in_flight}
use Rattle.machine.specs.State.{Table, limits_of}
use Rattle.machine.specs.Table.{count, by_under}
use Rattle.machine.specs.Sound.{Lawful, All, Bounded, Sound}
use Rattle.machine.specs.Typed.{Each}
use Rattle.machine.proofs.Tests.{test}
use Rattle.store.specs.Flat.{rows_of, places_of, Flat, flat_of}
use Rattle.store.specs.Gather.{gather, table_in, state_in}
use Rattle.store.specs.FlatSound.{ConnFits, FlatSound}
use Rattle.store.proofs.Counts.{held-rows, by_rows, under_rows, by_under_rows, DistinctIn, distinct_in, own_by_rows, own_under_rows, own-wtxid-rows, places-rows}
use Rattle.store.proofs.Certify.{held_rows, owned_rows, value_of, held_value, owned_value}
use Rattle.store.proofs.Gathered.{Gathered, gathered}
use Rattle.store.proofs.Placed.{dress-rows, dress-ordered, dress-filled, Dressed, dressed}

-- a bound of each entry is a bound of each connection
value-most : (v : Conn → ℕ) (B x : ℕ) (cs : List Conn) → Each (λ c. v c ≤ B) cs → value_of v x cs ≤ B
unfolding value_of
value-most v B x [] e = omega arith
value-most v B x (c ∷ cs) e = elim (test (eqb x c.conn)) [ inl q ↦ rw q e.0 | inr q ↦ rw q (value-most v B x cs e.1) ]

most_held : (cs : List Conn) → Each ConnFits cs → Each (λ c. c.held ≤ max_peer_announcements) cs
most_held [] e = tt
most_held (c ∷ cs) e = (e.0.held, most_held cs e.1)

most-owned : (cs : List Conn) → Each ConnFits cs → Each (λ c. c.owned ≤ max_in_flight) cs
most-owned [] e = tt
most-owned (c ∷ cs) e = (e.0.owned, most-owned cs e.1)

module _ (f : Flat) (s : FlatSound f) where
  abbrev t : Table
  t = gather f.rows

  g : Gathered 0 f.rows t
  g = gathered 0 f.rows (record { fit = s.rows_fit; ascending = s.ascending; marks = s.marks; once = s.once; single = s.single })

  once_in : (u : Table) → rows_of u ≡ f.rows → (n h : ℕ) → count (by_under n h) u ≤ 1
  once_in u e n h = rw (← (by_under_rows u n h), e) (s.once n h)

  d : Dressed f.places t
  d = dressed f.rows t f.places g.ordered g.lawful g.unplaced s.places-ascend s.places-fit
      (λ h. rw g.rows at (own-wtxid-rows t g.lawful (distinct_in t (once_in t g.rows)) h))

  abbrev u : Table
  u = table_in f.rows f.places

  rows_are : rows_of u ≡ f.rows
  unfolding table_in
  rows_are = dress-rows f.places t ∙ g.rows

  places-are : places_of u ≡ f.places
  unfolding table_in
  places-are = d.places

  lawful : All Lawful u
  unfolding table_in
  lawful = d.lawful

  distinct : All DistinctIn u
  distinct = distinct_in u (once_in u rows_are)

  few_held : (n : ℕ) → held_rows n f.rows ≤ max_peer_announcements
  few_held n = rw (← (held_value f.rows n), ← s.conns) (value-most (λ c. c.held) max_peer_announcements n f.conns (most_held f.conns s.conns-fit))

  few_owned : (n : ℕ) → owned_rows n f.rows ≤ max_in_flight
  few_owned n = rw (← (owned_value f.rows n), ← s.conns) (value-most (λ c. c.owned) max_in_flight n f.conns (most-owned f.conns s.conns-fit))

  bounded : Bounded (limits_of (state_in f)) f.head.places u
  unfolding table_in
  bounded = record {
    ordered = dress-ordered f.places 0 t g.ordered;
    filled = dress-filled f.places t g.filled;
    lawful = lawful;
    fits = rw (← (held-rows u), rows_are) s.rows_few;
    each = λ n. rw (← (by_rows u n), rows_are) (few_held n);
    alternates = λ h. rw (← (under_rows u h), rows_are) (s.alternates h);
    once = once_in u rows_are;
    owned = λ n. rw (← (own_by_rows u lawful distinct n), rows_are) (few_owned n);
    single = λ h. rw (← (own_under_rows u lawful distinct h), rows_are) (s.single h);
    room = rw (← (places-rows u), places-are) s.places_few;
  }

  pub sound-state : Sound (state_in f)
  sound-state = record {
    some_limit = s.some_limit;
    most-limit = s.most-limit;
    some_place = s.some_place;
    most-places = s.most-places;
    bounded = bounded;
    poll = s.poll;
    known = s.known;
    ready = s.ready;
  }

  pub flat_back : flat_of (state_in f) ≡ f
  flat_back = rw (rows_are, places-are, ← s.conns)
