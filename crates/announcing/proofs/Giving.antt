-- The first of the victims gives way: the next ones are then the first. A preferred candidate that comes in changes nothing in their order.
use Prim.Native.Nat.{ℕ, ◌+◌, ◌≤◌}
use mathlib.Core.Path.{◌≡◌, refl, sym, ap, ◌∙◌}
use mathlib.Core.Bool.{Bool, true, ◌||◌}
use mathlib.Core.List.{List, [], ◌∷◌, ◌++◌}
use mathlib.Core.Option.{none, some}
use native.Mathlib.Omega.{arith}
use lib.Dec.{ltb, eqb}
use lib.ListN.{length}
use borrow.Author.Tests.{eq-eqb}
use Rattle.std.specs.Prelude.{if◌then◌else◌}
use Rattle.ident.specs.Number.{Key, place}
use Rattle.regions.specs.declared.Row.{Row}
use Rattle.regions.specs.Regions.{remove_at}
use Rattle.machine.specs.State.{Candidate, Entry, Request, State, Table, with_candidates, owner_is}
use Rattle.machine.specs.Table.{at, keep, change, one, count, any, by_under, held}
use Rattle.machine.specs.Announce.{victims_in, victims, greatest, anywhere, push, cut}
use Rattle.machine.specs.Sound.{Sound}
use Rattle.machine.proofs.Announce.{Victim, victims_all}
use Rattle.machine.proofs.Table.{at_key, lawful_at}
use Rattle.machine.proofs.Tests.{by_test}
use Rattle.store.specs.Flat.{row_of, rows_of, places_of}
use Rattle.store.specs.Gather.{key_at, candidate_at}
use Rattle.store.specs.FlatSound.{count_rows}
use Rattle.store.proofs.Bits.{key_row, conn-row}
use Rattle.store.proofs.Counts.{rows_append, count-rows}
use Rattle.store.proofs.RowsAt.{Among, among, ahead, behind, rows-among, cut-rows, cut-places, remove_seam}
use Rattle.requests.proofs.Cutting.{place_stays}
use Rattle.announcing.specs.Enters.{Goes}
use Rattle.announcing.specs.Evicts.{entry_at, greatest_over}
use Rattle.announcing.specs.Falls.{fallen, head_of, Foremost}
use Rattle.announcing.proofs.Deciding.{greatest_each}
use Rattle.announcing.proofs.Falling.{Apart, fallen-head, fallen_tail}
use Rattle.announcing.proofs.Victims.{greatest-rows}

-- ---- a preferred candidate comes in

-- a candidate more at the end is none that can be evicted if it is preferred
in_push : (r : Request) (x : List Candidate) (c : Candidate) (cs : List Candidate) → c.preferred ≡ true → victims_in (with_candidates x r) (cs ++ (c ∷ [])) ≡ victims_in r cs
unfolding victims_in
in_push r x c [] p = rw p
in_push r x c (d ∷ cs) p = ap (λ (l : List Entry). if d.preferred || owner_is d.connection r.owner then l else record { key = r.key; candidate = d } ∷ l) (in_push r x c cs p)

keep-push : (r : Request) (cs : List Candidate) (c : Candidate) (t : Table) → keep r (cs ++ (c ∷ [])) t ≡ r ∷ t
unfolding keep
keep-push r [] c t = refl
keep-push r (d ∷ cs) c t = refl

pub victims-push : (k : Key) (c : Candidate) (t : Table) → c.preferred ≡ true → victims anywhere (push k c t) ≡ victims anywhere t
unfolding change victims
victims-push k c [] p = unfold keep victims_in in rw p
victims-push k c (r ∷ t) p =
    by_test (λ (x : Table). victims anywhere x ≡ victims anywhere (r ∷ t)) (ltb (place k) (place r.key))
    (λ e. unfold keep victims_in in rw p)
    (λ e. by_test (λ (x : Table). victims anywhere x ≡ victims anywhere (r ∷ t)) (eqb (place k) (place r.key))
    (λ d. ap (victims anywhere) (keep-push (with_candidates (r.candidates ++ (c ∷ [])) r) r.candidates c t) ∙
    ap (λ (l : List Entry). l ++ victims anywhere t) (in_push r (r.candidates ++ (c ∷ [])) c r.candidates p))
    (λ d. ap (λ (l : List Entry). victims_in r r.candidates ++ l) (victims-push k c t p)))

-- ---- the first gives way

module _ (st : State) (s : Sound st) (v : Row) (vs : List Row) (f : Foremost (v ∷ vs) (rows_of st.table)) where
  abbrev t : Table
  t = st.table

  abbrev k : Key
  k = key_at v

  pub first : greatest_over none (rows_of t) ≡ some (entry_at v)
  first = sym (fallen-head [] (rows_of t)) ∙ ap head_of f.all

  -- it is the one that the machine evicts
  pub first_greatest : greatest (victims anywhere t) ≡ some (entry_at v)
  first_greatest = sym (greatest-rows t s.bounded.lawful) ∙ first

  pub first_goes : Goes v t
  unfolding candidate_at
  first_goes =
      let x = greatest_each (Victim anywhere 0 t) (victims anywhere t) (victims_all anywhere 0 t s.bounded.ordered) first_greatest in
      record { small = x.small; held = x.held; free = x.free }

  abbrev pub found : Among v.conn (at k t).candidates
  found = among v.conn (at k t).candidates first_goes.held

  abbrev pub front : List Row
  front = ahead k v.conn 0 t s.bounded.ordered found

  abbrev pub back : List Row
  back = behind k v.conn 0 t s.bounded.ordered found

  abbrev pub own : Row
  own = row_of (at k t) found.one

  pub rows_are : rows_of t ≡ front ++ (own ∷ back)
  rows_are = rows-among k v.conn 0 t s.bounded.ordered found

  pub rows_left_lem : rows_of (cut k v.conn t) ≡ front ++ back
  rows_left_lem = cut-rows k v.conn 0 t s.bounded.ordered found ∙ ap (remove_at (length front)) rows_are ∙ remove_seam front own back

  -- no other row is of its connection at its hash
  abbrev his : Row → Bool
  his r = by_under v.conn k.hash (key_at r) r.conn

  once : count_rows his front + (one (his own) + count_rows his back) ≤ 1
  unfolding count_rows
  once = omega (arith, rows_append his front (own ∷ back), ap (count_rows his) rows_are, count-rows (by_under v.conn k.hash) t, s.bounded.once v.conn k.hash)

  own_his : his own ≡ true
  own_his =
      rw (key_row (at k t) found.one, conn-row (at k t) found.one, at_key k 0 t first_goes.small s.bounded.ordered, eq-eqb k.hash k.hash refl)
      (eq-eqb found.one.connection v.conn found.is)

  apart : (rs : List Row) → count_rows his rs ≡ 0 → Apart (entry_at v) rs
  unfolding count_rows candidate_at
  apart [] e = tt
  apart (r ∷ rs) e = ((λ q. omega (arith, ap one (same q), e)), apart rs (omega (arith, e)))
    where
      same : entry_at r ≡ entry_at v → his r ≡ true
      same q =
          let a : (key_at r).hash ≡ k.hash = ap (λ (x : Entry). x.key.hash) q in
          let b : r.conn ≡ v.conn = ap (λ (x : Entry). x.candidate.connection) q in
          rw (eq-eqb (key_at r).hash k.hash a) (eq-eqb r.conn v.conn b)

  pub front_apart : Apart (entry_at v) front
  front_apart = apart front (omega (arith, once, ap one own_his))

  pub back_apart : Apart (entry_at v) back
  back_apart = apart back (omega (arith, once, ap one own_his))

  pub rest_fallen : fallen [] (rows_of t) ≡ entry_at v ∷ fallen [] (rows_of (cut k v.conn t))
  rest_fallen =
      ap (fallen []) rows_are ∙ fallen_tail (entry_at v) front own back front_apart back_apart (ap (greatest_over none) (sym rows_are) ∙ first)
      ∙ ap (λ (x : List Row). entry_at v ∷ fallen [] x) (sym rows_left_lem)

  pub next_first : Foremost vs (rows_of (cut k v.conn t))
  next_first = record { others = f.others; all = tail (sym rest_fallen ∙ f.all) }
    where
      tail : {a b : List Entry} → entry_at v ∷ a ≡ entry_at v ∷ b → a ≡ b
      tail q = cc

  -- one candidate less, of its key and its connection
  pub count_less : (q : Key → ℕ → Bool) → count q (cut k v.conn t) + one (q k v.conn) ≡ count q t
  unfolding count_rows
  count_less q =
      let p : Row → Bool = λ r. q (key_at r) r.conn in
      let e : p own ≡ q k v.conn =
      ap (λ (j : Key). q j own.conn) (key_row (at k t) found.one ∙ at_key k 0 t first_goes.small s.bounded.ordered) ∙ ap (q k) (conn-row (at k t) found.one ∙ found.is) in
      omega (
        arith,
        sym (count-rows q (cut k v.conn t)),
        sym (count-rows q t),
        ap (count_rows p) rows_left_lem,
        ap (count_rows p) rows_are,
        rows_append p front back,
        rows_append p front (own ∷ back),
        ap one e,
      )

  -- one row less
  pub one_less : held (cut k v.conn t) + 1 ≡ held t
  one_less = count_less any

  -- no place goes with it
  pub places_less : places_of (cut k v.conn t) ≡ places_of t
  places_less = cut-places k v.conn 0 t s.bounded.ordered found (place_stays (at k t) v.conn (lawful_at k t s.bounded.lawful) first_goes.free)
