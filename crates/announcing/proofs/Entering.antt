-- What coming in does to the bytes: after a victim has gone they write a sound state, with room for one more.
use Prim.Native.Nat.{ℕ, ◌<◌}
use mathlib.Core.Path.{◌≡◌, refl, sym, ap, subst, ◌∙◌}
use mathlib.Core.Logic.{inl, inr}
use mathlib.Core.Bool.{Bool, true, false}
use mathlib.Core.List.{List}
use mathlib.Core.Option.{Option, none, some}
use native.Mathlib.Omega.{arith}
use lib.Dec.{eqb}
use borrow.Author.Tests.{ltb-false, le-ltb, eqb-true}
use Rattle.ident.specs.declared.Kind.{Kind}
use Rattle.ident.specs.declared.Kind.TheVariants.{Txid, Wtxid}
use Rattle.ident.specs.Number.{top, Key}
use Rattle.regions.specs.declared.Row.{Row}
use Rattle.machine.specs.State.{Candidate, Owner, Table, State, Answer, on_table, limits_of, refused, owner_is}
use Rattle.machine.specs.Table.{at, has, any, held, is_candidate, by_under, count}
use Rattle.machine.specs.Announce.{push, cut, announce_at}
use Rattle.machine.specs.Sound.{OwnerFits, Ordered, Sound}
use Rattle.machine.proofs.Announce.{count_cut}
use Rattle.machine.proofs.Change.{bounded-cut}
use Rattle.machine.proofs.Table.{lawful_at}
use Rattle.machine.proofs.Tests.{test, never, or_left, or_right}
use Rattle.store.specs.Gather.{key_at}
use Rattle.store.specs.Image.{Writes}
use Rattle.store.specs.Shown.{limit_in, rows_in, Kept}
use Rattle.store.proofs.Counts.{held-rows}
use Rattle.store.proofs.Frame.{sizes}
use Rattle.requests.proofs.Holding.{either-kind}
use Rattle.requests.specs.Changes.{Makes}
use Rattle.announcing.specs.Answers.{Answered}
use Rattle.announcing.specs.Enters.{Goes, Entering, Replacing}

-- ---- who is no candidate at a hash owns none of its requests

hasnt : (n h : ℕ) → h < top → (t : Table) → Ordered 0 t → is_candidate n h t ≡ false → (x : Kind) → has n (at (record { kind = x; hash = h }) t).candidates ≡ false
hasnt n h s t o e Txid = or_left _ (has n (at (record { kind = Wtxid; hash = h }) t).candidates) (either-kind n h s t o ∙ e)
hasnt n h s t o e Wtxid = or_right (has n (at (record { kind = Txid; hash = h }) t).candidates) _ (either-kind n h s t o ∙ e)

not_owner : (n : ℕ) (w : Option Owner) (cs : List Candidate) → has n cs ≡ false → OwnerFits w cs → owner_is n w ≡ false
not_owner n none cs h f = refl
not_owner n (some w) cs h f =
    elim (test (eqb w.connection n)) [
      | inl e ↦ never (sym h ∙ ap (λ (m : ℕ). has m cs) (sym (eqb-true w.connection n e)) ∙ f.0)
      | inr e ↦ e
    ]

module _ (st : State) (s : Sound st) (k : Key) (small : k.hash < top) (n : ℕ) where
  pub fresh : is_candidate n k.hash st.table ≡ false → owner_is n (at k st.table).owner ≡ false
  fresh e = not_owner n (at k st.table).owner (at k st.table).candidates (hasnt n k.hash small st.table s.bounded.ordered e k.kind)
      (lawful_at k st.table s.bounded.lawful).owner

-- ---- once the victim has gone

module _ (st : State) (s : Sound st) (r : Row) (g : Goes r st.table) where
  abbrev cleared : State
  cleared = on_table (cut (key_at r) r.conn st.table) st

  pub cleared-sound : Sound cleared
  cleared-sound = record {
    some_limit = s.some_limit;
    most-limit = s.most-limit;
    some_place = s.some_place;
    most-places = s.most-places;
    bounded = bounded-cut (key_at r) r.conn g.small g.free s.bounded;
    poll = s.poll;
    known = s.known;
    ready = s.ready;
  }

  pub cleared-fresh : (n h : ℕ) → is_candidate n h st.table ≡ false → is_candidate n h cleared.table ≡ false
  cleared-fresh n h e = le-ltb 0 (count (by_under n h) cleared.table)
      (omega (arith, count_cut (by_under n h) (key_at r) r.conn st.table g.small s.bounded.ordered g.held, ltb-false 0 (count (by_under n h) st.table) e))

  pub cleared-room : {b : List ℕ} → Writes b cleared → rows_in b < limit_in b
  cleared-room w =
      let z = sizes w in
      omega (arith, z.rows, z.limit, held-rows cleared.table, count_cut any (key_at r) r.conn st.table g.small s.bounded.ordered g.held, s.bounded.fits)

  pub cut-writes : {b b' : List ℕ} {k : Key} → k ≡ key_at r → Makes b b' (λ t. (has r.conn (at k t).candidates ≡ true) × (owner_is r.conn (at k t).owner ≡ false)) (cut k r.conn)
      → Writes b st → Writes b' cleared
  cut-writes {b} {b'} {k} e h w = subst (λ (j : Key). Makes b b' (λ t. (has r.conn (at j t).candidates ≡ true) × (owner_is r.conn (at j t).owner ≡ false)) (cut j r.conn)) e h st s w
      (g.held, g.free)

  pub cleared_kept : {b : List ℕ} → Writes b cleared → Kept b
  cleared_kept w = record { state = cleared; sound = cleared-sound; writes = w }

-- room as the header has it
pub room_in : (st : State) {b : List ℕ} → Writes b st → held st.table < st.limit → rows_in b < limit_in b
room_in st w h =
    let z = sizes w in
    omega (arith, z.rows, z.limit, held-rows st.table)

-- ---- the answer

module _ {b b' : List ℕ} (k : Key) (c : Candidate) where
  answered : {r : Bool} (g : Table → Table) → ((st : State) → Sound st → Writes b st → announce_at (limits_of st) k c st.table ≡ record { reply = r; table = g st.table })
      → ((st : State) → Sound st → Writes b st → Writes b' (on_table (g st.table) st)) → Answered b b' r (λ m t. announce_at m k c t)
  answered g e h = record {
    reply = λ st s w. ap (λ (a : Answer). a.reply) (sym (e st s w));
    table = λ st s w. subst (λ (a : Answer). Writes b' (on_table a.table st)) (sym (e st s w)) (h st s w);
  }

  pub answered-room : ((st : State) → Sound st → Writes b st → Entering (limits_of st) k c st.table) → k.hash < top → Makes b b' (λ t. owner_is c.connection (at k t).owner ≡ false) (push k c)
      → Answered b b' true (λ m t. announce_at m k c t)
  answered-room x small h = answered (push k c) (λ st s w. (x st s w).pushes) (λ st s w. h st s w (fresh st s k small c.connection (x st s w).new))

  pub answered-evicting : (r : Row) → ((st : State) → Sound st → Writes b st → Replacing (limits_of st) k c st.table r) → Makes b b' (λ t. Unit {0}) (λ t. push k c (cut (key_at r) r.conn t))
      → Answered b b' true (λ m t. announce_at m k c t)
  answered-evicting r x h = answered (λ t. push k c (cut (key_at r) r.conn t)) (λ st s w. (x st s w).evicts) (λ st s w. h st s w tt)

pub answered_refusing : {b : List ℕ} (k : Key) (c : Candidate) → ((st : State) → Sound st → Writes b st → announce_at (limits_of st) k c st.table ≡ refused st.table)
    → Answered b b false (λ m t. announce_at m k c t)
answered_refusing {b} k c x = answered {b' = b} k c (λ t. t) x (λ st s w. w)
