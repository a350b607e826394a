-- An owner with nothing to announce gives its request back in place: in bytes.
use Prim.Native.Nat.{ℕ, ◌<◌}
use mathlib.Core.Path.{◌≡◌, refl, sym, ap, ◌∙◌}
use mathlib.Core.Logic.{inl, inr}
use mathlib.Core.Bool.{true, false, or-false}
use mathlib.Core.List.{List, [], ◌∷◌}
use mathlib.Core.Option.{Option, none, some}
use native.Mathlib.Omega.{arith}
use lib.Dec.{eqb}
use lib.ListN.{length}
use borrow.Author.Tests.{eqb-true, eq-eqb}
use Rattle.ident.specs.Number.{top, Key, other}
use Rattle.words.specs.Words.{recs}
use Rattle.machine.specs.Limits.{Limits, word}
use Rattle.machine.specs.State.{Candidate, Owner, Request, Table, State, on_table, unowned, owner_is}
use Rattle.machine.specs.Table.{at, change, has}
use Rattle.machine.specs.Announce.{without}
use Rattle.machine.specs.Fail.{releasable, left, unclaim}
use Rattle.machine.specs.Sound.{OwnerFits, Sound, Bounded}
use Rattle.machine.proofs.Tests.{never, and_left}
use Rattle.machine.proofs.Table.{lawful_at}
use Rattle.machine.proofs.At.{at_other, other_place}
use Rattle.machine.proofs.Change.{bounded-change}
use Rattle.machine.proofs.Fail.{shrinks_left, shrinks_unowned}
use Rattle.machine.proofs.Kept.{sound-table}
use Rattle.store.specs.Image.{Writes}
use Rattle.store.specs.Shown.{Kept}
use Rattle.requests.specs.Changes.{Makes, Tells}
use Rattle.lent_lists.specs.Lists.{hashes_in}
use Rattle.failing.proofs.Leaving.{told, owner_of_lem, free_other}
use Rattle.failing.specs.Changes.{readied}
use Rattle.failing.proofs.Readied.{shrinks_ready}
use Rattle.handing.specs.Hands.{eased}
use Rattle.handing.specs.Hands.{Silent, KeyWaits}

pub bounded-eased : {m : Limits} {Q : ℕ} {t : Table} (n now : ℕ) (k : Key) → k.hash < top → now < word → Bounded m Q t → Bounded m Q (eased n now k t)
bounded-eased n now k s w b = bounded-change (other k) (left n now) s (shrinks_left n now w) (bounded-change k (readied now) s (shrinks_ready now w) (bounded-change k unowned s shrinks_unowned b))

-- ---- the three steps from b: given back in b₁, ready in b₂, left under the other kind in b₃

module _ {b b₁ : List ℕ} (k : Key) (small : k.hash < top) (n now : ℕ) (late : now < word) (r : Tells b (λ t. releasable n (at k t) ≡ true)) (u : Makes b b₁ (λ t. Unit {0}) (unclaim k n)) where
  given : State → State
  given st = on_table (change k unowned st.table) st

  given_sound : (st : State) → Sound st → Sound (given st)
  unfolding given
  given_sound st s = sound-table s (bounded-change k unowned small shrinks_unowned s.bounded)

  given_writes : (st : State) → Sound st → Writes b st → Writes b₁ (given st)
  unfolding given unclaim
  given_writes st s w = rw (r st s w) at (u st s w tt)

  pub ready_kept : Kept b → Kept b₁
  ready_kept p = record { state = given p.state; sound = given_sound p.state p.sound; writes = given_writes p.state p.sound p.writes }

  module _ {b₂ : List ℕ} (v : Makes b₁ b₂ (λ t. Unit {0}) (change k (readied now))) where
    ready : State → State
    ready st = on_table (change k (readied now) (change k unowned st.table)) st

    ready-sound : (st : State) → Sound st → Sound (ready st)
    unfolding ready given
    ready-sound st s = sound-table s (bounded-change k (readied now) small (shrinks_ready now late) (given_sound st s).bounded)

    ready-writes : (st : State) → Sound st → Writes b st → Writes b₂ (ready st)
    unfolding ready given
    ready-writes st s w = v (given st) (given_sound st s) (given_writes st s w) tt

    pub leave-free : {j : Key} → j ≡ other k → Kept b → Kept b₂ × Tells b₂ (λ t. owner_is n (at j t).owner ≡ false)
    unfolding ready
    leave-free q p =
        let st = p.state in
        let s = p.sound in
        let e = owner_of_lem n (at k st.table) (r st s p.writes) in
        let free : owner_is n (at (other k) (ready st).table).owner ≡ false =
        ap (λ (x : Request). owner_is n x.owner) (at_other (other k) k (readied now) (change k unowned st.table) (λ x. refl) (other_place k small)) ∙ free_other st s k small n e in
        rw q (
          record { state = ready st; sound = ready-sound st s; writes = ready-writes st s p.writes },
          told (λ t. owner_is n (at (other k) t).owner ≡ false) (ready st) (ready-sound st s) (ready-writes st s p.writes) free,
        )

    pub eased_made : {b₃ : List ℕ} {j : Key} → j ≡ other k → Makes b₂ b₃ (λ t. Unit {0}) (change j (left n now)) → Makes b b₃ (λ t. Unit {0}) (eased n now k)
    unfolding ready
    eased_made {b₃} {j} q l st s w z =
        let h : Makes b₂ b₃ (λ t. Unit {0}) (change (other k) (left n now)) = rw q at l in
        h (ready st) (ready-sound st s) (ready-writes st s w) tt

-- ---- whether it waits

module _ {b : List ℕ} (n now : ℕ) (k : Key) where
  pub waits-free : Tells b (λ t. owner_is n (at k t).owner ≡ false) → KeyWaits n now k b b true
  waits-free f = record { rests = λ e st s w. inl (f st s w, w); same = λ e. refl; owns = λ e. never (sym e) }

  pub waits_not : Tells b (λ t. owner_is n (at k t).owner ≡ true) → KeyWaits n now k b b false
  waits_not f = record { rests = λ e. never e; same = λ e. refl; owns = λ e. f }

  pub waits-eased : {b₁ : List ℕ} → Tells b (λ t. releasable n (at k t) ≡ true) → Tells b (λ t. owner_is n (at k t).owner ≡ true → Silent n (at k t))
      → Makes b b₁ (λ t. Unit {0}) (eased n now k) → KeyWaits n now k b b₁ true
  waits-eased f g h = record { rests = λ e st s w. inr (f st s w, g st s w (and_left _ _ (f st s w)), h st s w tt); same = λ e. never (sym e); owns = λ e. never (sym e) }

pub no-parents : (u : List ℕ) {hs : List ℕ} → length u ≡ 0 → hashes_in u ≡ hs → hs ≡ []
unfolding hashes_in recs
no-parents [] e h = sym h
no-parents (x ∷ u) e h = absurd (omega arith)

-- ---- nobody else

-- an owner that is the only candidate leaves nobody behind
only_one : (n : ℕ) (o : Option Owner) (cs : List Candidate) → OwnerFits o cs → owner_is n o ≡ true → length cs ≡ 1 → without n cs ≡ []
unfolding has without
only_one n none cs f e l = never e
only_one n (some o) [] f e l = absurd (omega arith)
only_one n (some o) (c ∷ []) f e l =
    let a : c.connection ≡ o.connection = eqb-true c.connection o.connection (sym (or-false (eqb c.connection o.connection)) ∙ f.0) in
    rw (eq-eqb c.connection n (a ∙ eqb-true o.connection n e))
only_one n (some o) (c ∷ d ∷ cs) f e l = absurd (omega arith)

pub single-silent : (st : State) → Sound st → (n : ℕ) (k : Key) → length (at k st.table).candidates ≡ 1 → owner_is n (at k st.table).owner ≡ true → Silent n (at k st.table)
single-silent st s n k l e = let q = at k st.table in inr (only_one n q.owner q.candidates (lawful_at k st.table s.bounded.lawful).owner e l)
