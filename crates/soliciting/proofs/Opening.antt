-- Owner and flag, set one after the other at a Wtxid key.
use Prim.Native.Nat.{ℕ, ◌+◌, ◌≤◌, ◌<◌}
use mathlib.Core.Path.{◌≡◌, refl, sym, ap, subst, ◌∙◌}
use mathlib.Core.Bool.{Bool, true, false}
use mathlib.Core.List.{List, []}
use mathlib.Core.Option.{Option, none, some}
use native.Mathlib.Omega.{arith}
use lib.ListN.{length}
use Rattle.ident.specs.declared.Kind.{Kind}
use Rattle.ident.specs.Number.{top, Key, wtxid}
use Rattle.machine.specs.Limits.{request_lifetime, latest_clock}
use Rattle.machine.specs.State.{Owner, Package, Request, Table, State, on_table, owned_until, is_some}
use Rattle.machine.specs.Table.{at, change, has, places_held}
use Rattle.machine.specs.Package.{soliciting, solicited}
use Rattle.machine.specs.Sound.{Packed, Ordered, Sound}
use Rattle.machine.proofs.Alone.{has_some}
use Rattle.machine.proofs.Change.{unowned_at}
use Rattle.machine.proofs.Claim.{bounded-take}
use Rattle.machine.proofs.Kept.{sound-table}
use Rattle.machine.proofs.OneKey.{at_changed}
use Rattle.machine.proofs.Table.{lawful_at, places-change}
use Rattle.machine.proofs.Tests.{never}
use Rattle.store.specs.Image.{Writes}
use Rattle.store.specs.Shown.{places_in, held_places_in, Kept}
use Rattle.store.proofs.Counts.{places-rows}
use Rattle.store.proofs.Frame.{sizes}
use Rattle.requests.specs.Changes.{Makes}
use Rattle.package_stages.specs.Changes.{OwnedPlain, flagged}
use Rattle.package_stages.proofs.Sounds.{sound-flagged}
use Rattle.package_stages.proofs.Steps.{solicit-flag}
use Rattle.soliciting.specs.Solicits.{MayOwn, Opened}

-- room as the header has it
pub place-free : (st : State) {b : List ℕ} → Writes b st → held_places_in b < places_in b → places_held st.table < st.places
place-free st w l =
    let z = sizes w in
    omega (arith, z.held-places, z.places, places-rows st.table)

pub place-in : (st : State) {b : List ℕ} → Writes b st → places_held st.table < st.places → held_places_in b < places_in b
place-in st w l =
    let z = sizes w in
    omega (arith, z.held-places, z.places, places-rows st.table)

-- a request that nobody owns has neither flag nor package
record Plain (i : Bool) (p : Option Package) : Type 0 where
  info : i ≡ false
  bare : p ≡ none

plain : (k : Kind) (o : Option Owner) (i : Bool) (p : Option Package) (hs : List ℕ) → o ≡ none → Packed k o i p hs → Plain i p
plain k o true (some p) hs e f = absurd f
plain k o true none hs e f = never (sym (ap is_some e) ∙ f.0)
plain k o false (some p) hs e f = never (sym (ap is_some e) ∙ f.0)
plain k o false none hs e f = record { info = refl; bare = refl }

module _ (st : State) (s : Sound st) (n h now : ℕ) (small : h < top) (late : now ≤ latest_clock) (m : MayOwn n h st.table) where
  abbrev k : Key
  k = wtxid h

  abbrev q : Request
  q = at k st.table

  abbrev d : ℕ
  d = now + request_lifetime

  o : Ordered 0 st.table
  o = s.bounded.ordered

  unowned : q.owner ≡ none
  unowned = unowned_at k st.table small o m.free

  pub some_candidate : 1 ≤ length q.candidates
  some_candidate = has_some n q.candidates m.held

  abbrev owned : State
  owned = on_table (change k (owned_until n d) st.table) st

  owned-sound : Sound owned
  owned-sound = sound-table s (bounded-take now (record { key = k; candidate = soliciting n h now }) small (omega arith) (record { free = m.free; held = m.held; few = m.few }) s.bounded)

  owned-plain : OwnedPlain (at k owned.table)
  owned-plain =
      let f = plain q.key.kind q.owner q.info q.«package» q.parents unowned (lawful_at k st.table s.bounded.lawful).packed in
      rw (at_changed k (owned_until n d) st.table (λ r. refl) o some_candidate) (record { owned = refl; info = f.info; bare = f.bare })

  owned-room : places_held st.table < st.places → places_held owned.table < st.places
  owned-room l = omega (arith, places-change k (owned_until n d) st.table o)

  abbrev opened : State
  opened = on_table (change k (solicited n d []) st.table) st

  pub opened-sound : places_held st.table < st.places → Sound opened
  opened-sound l = subst (λ (t : Table). Sound (on_table t st)) (solicit-flag k st.table o some_candidate n d) (sound-flagged owned owned-sound h small owned-plain (owned-room l))

  pub opened_at : Opened (at k opened.table)
  opened_at = rw (at_changed k (solicited n d []) st.table (λ r. refl) o some_candidate) (record { held = refl; bare = refl })

  -- on the bytes; the code's key is j
  module _ {b b₁ : List ℕ} (j : Key) (e : j ≡ wtxid h) (own : Makes b b₁ (λ t. (has n (at j t).candidates ≡ true) × ((at j t).owner ≡ none)) (change j (owned_until n d))) (w : Writes b st) where
    owned-writes : Writes b₁ owned
    owned-writes = subst (λ (i : Key). Makes b b₁ (λ t. (has n (at i t).candidates ≡ true) × ((at i t).owner ≡ none)) (change i (owned_until n d))) e own st s w (m.held, unowned)

    pub owned_kept : Kept b₁
    owned_kept = record { state = owned; sound = owned-sound; writes = owned-writes }

    pub owned-place : held_places_in b < places_in b → held_places_in b₁ < places_in b₁
    owned-place l = place-in owned owned-writes (owned-room (place-free st w l))

    pub opened-writes : {b₂ : List ℕ} → Makes b₁ b₂ (λ t. OwnedPlain (at k t)) (change k flagged) → Writes b₂ opened
    opened-writes {b₂} f = subst (λ (t : Table). Writes b₂ (on_table t st)) (solicit-flag k st.table o some_candidate n d) (f owned owned-sound owned-writes owned-plain)
