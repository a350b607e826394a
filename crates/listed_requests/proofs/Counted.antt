-- The last part of the test: no connection comes too often in the two lists that are counted.
use Prim.Native.Nat.{ℕ, ◌≤◌}
use mathlib.Core.Path.{◌≡◌}
use mathlib.Core.Bool.{true}
use native.Mathlib.Omega.{arith}
use lib.Dec.{leb}
use borrow.Author.Tests.{eqb-true, leb-true, le-leb}
use Rattle.machine.specs.Limits.{max_peer_announcements, max_in_flight}
use Rattle.machine.specs.State.{Table}
use Rattle.machine.specs.Table.{by, count, owners, held_by, owned_by}
use Rattle.machine.specs.Sound.{All, Lawful}
use Rattle.machine.specs.SoundTest.{is_lawful, every}
use Rattle.machine.proofs.Tests.{and_left, and_right}
use Rattle.machine.proofs.SoundTest.{Test, test-every, test-lawful, every_one_lem, most-met, owners-count}
use Rattle.heavy.specs.Counters.{Few}
use Rattle.heavy.specs.Streams.{connections_in, owners_in}
use Rattle.heavy.proofs.Streams.{held_few, few_held, owned_few, few_owned}
use Rattle.listed_requests.specs.Parts.{count_fits, counts_fit}

pub record AllFew (t : Table) : Type 0 where
  pub held : Few max_peer_announcements (connections_in t)
  pub owned : Few max_in_flight (owners_in t)

module _ (t : Table) where
  passes : AllFew t → counts_fit t ≡ true
  passes f =
      every_one_lem (count_fits t)
      (λ k c. rw (
        le-leb (held_by c.connection t) max_peer_announcements (held_few max_peer_announcements t f.held c.connection),
        le-leb (owned_by c.connection t) max_in_flight (owned_few max_in_flight t f.owned c.connection),
      )) t

  module _ (l : All Lawful t) (e : counts_fit t ≡ true) where
    each : (n : ℕ) → held_by n t ≤ max_peer_announcements
    each n =
        most-met (count_fits t) (by n) t (count (by n) t) max_peer_announcements e (omega arith)
        (λ k c p q. rw (eqb-true c.connection n q) at (leb-true (held_by c.connection t) max_peer_announcements
        (and_left (leb (held_by c.connection t) max_peer_announcements) (leb (owned_by c.connection t) max_in_flight) p)))

    owned : (n : ℕ) → owned_by n t ≤ max_in_flight
    owned n =
        most-met (count_fits t) (by n) t (owners (by n) t) max_in_flight e (owners-count (by n) t l)
        (λ k c p q. rw (eqb-true c.connection n q) at (leb-true (owned_by c.connection t) max_in_flight
        (and_right (leb (held_by c.connection t) max_peer_announcements) (leb (owned_by c.connection t) max_in_flight) p)))

  -- where every request is lawful: an owner is a candidate
  pub test-counts : every is_lawful t ≡ true → Test (counts_fit t) (AllFew t)
  test-counts v =
      let l = (test-every is_lawful Lawful test-lawful t).holds v in
      record { holds = λ e. record { held = few_held max_peer_announcements t (each l e); owned = few_owned max_in_flight t (owned l e) }; passes = passes }
