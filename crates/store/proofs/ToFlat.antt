-- A sound state's records pass the tests.
use mathlib.Core.Path.{refl}
use native.Mathlib.Omega.{arith}
use Rattle.regions.specs.declared.Conn.{Conn}
use Rattle.machine.specs.State.{Table, State, limits_of}
use Rattle.machine.specs.Sound.{All, Bounded, Sound}
use Rattle.store.specs.Flat.{rows_of, tally, flat_of}
use Rattle.store.specs.FlatSound.{ConnFits, FlatSound}
use Rattle.store.proofs.Counts.{held-rows, by_rows, under_rows, by_under_rows, DistinctIn, distinct_in, own_by_rows, own_under_rows, own-wtxid-rows, places-rows}
use Rattle.store.proofs.Certify.{Counted, tally-counted}
use Rattle.store.proofs.RowsFit.{each_by, rows_fit, rows-ascend, rows-marked}
use Rattle.store.proofs.PlacesFit.{places-fit, places-ascend}

module _ (s : State) (h : Sound s) where
  abbrev t : Table
  t = s.table

  abbrev b : Bounded (limits_of s) s.places s.table
  b = h.bounded

  d : All DistinctIn t
  d = distinct_in t b.once

  conn-fits : (c : Conn) → Counted (rows_of t) c → ConnFits c
  conn-fits c k = record {
    held = rw (k.held, by_rows t c.conn) (b.each c.conn);
    owned = rw (k.owned, own_by_rows t b.lawful d c.conn) (b.owned c.conn);
  }

  pub flat_sound : FlatSound (flat_of s)
  flat_sound = record {
    some_limit = h.some_limit;
    most-limit = h.most-limit;
    some_place = h.some_place;
    most-places = h.most-places;
    poll = h.poll;
    known = h.known;
    ready = h.ready;
    rows_few = rw (held-rows t) b.fits;
    rows_fit = rows_fit 0 t b.ordered b.lawful;
    ascending = rows-ascend 0 t b.ordered;
    marks = rows-marked 0 t b.ordered;
    alternates = λ x. rw (under_rows t x) (b.alternates x);
    once = λ n x. rw (by_under_rows t n x) (b.once n x);
    single = λ x. rw (own_under_rows t b.lawful d x) (b.single x);
    conns = refl;
    conns-fit = each_by (tally (rows_of t)) conn-fits (tally-counted (rows_of t));
    places_few = rw (places-rows t) b.room;
    places-ascend = places-ascend 0 0 t b.ordered b.lawful (λ x l. omega arith);
    places-fit = places-fit (rows_of t) 0 t b.ordered b.lawful (λ x. omega (arith, own-wtxid-rows t b.lawful d x));
  }
