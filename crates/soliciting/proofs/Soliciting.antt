-- solicit_package_info: announced, then owner, flag and parents.
use Prim.Native.Nat.{ℕ, ◌+◌, ◌≤◌, ◌<◌}
use mathlib.Core.Path.{◌≡◌, refl, sym, ap, subst, ◌∙◌}
use mathlib.Core.Bool.{Bool, true, false, ◌&&◌}
use mathlib.Core.List.{List, []}
use native.Mathlib.Omega.{arith}
use lib.Dec.{ltb, eqb}
use borrow.Author.Tests.{ltb-true, eqb-true}
use Rattle.ident.specs.Number.{top, Key, wtxid}
use Rattle.machine.specs.Limits.{max_in_flight, request_lifetime, latest_clock}
use Rattle.machine.specs.State.{Candidate, Table, State, on_table, limits_of}
use Rattle.machine.specs.Table.{at, change, has, by, under, owned_at, owned_by, places_held}
use Rattle.machine.specs.Announce.{announce_at}
use Rattle.machine.specs.Fail.{dedup}
use Rattle.machine.specs.Package.{soliciting, solicited, solicit}
use Rattle.machine.specs.Sound.{Sound}
use Rattle.machine.proofs.Announce.{Follows, follows-announce_at}
use Rattle.machine.proofs.Fail.{Peer}
use Rattle.machine.proofs.Kept.{sound-table}
use Rattle.machine.proofs.Tests.{and_left, and_right}
use Rattle.store.specs.Image.{Writes}
use Rattle.store.specs.Shown.{places_in, held_places_in, Kept}
use Rattle.requests.specs.Changes.{Makes, Tells}
use Rattle.package_stages.proofs.Steps.{change-twice}
use Rattle.announcing.specs.Answers.{Answered}
use Rattle.soliciting.specs.Solicits.{Keeps, MayOwn, Opened, given, Room}
use Rattle.soliciting.proofs.Opening.{place-in, some_candidate, opened-sound, opened_at}

-- what is asked: the connection, the hash, the parents, the time
pub record Asked : Type 0 where
  pub n : ℕ
  pub h : ℕ
  pub hs : List ℕ
  pub now : ℕ
  pub peer : Peer n
  pub small : h < top
  pub late : now ≤ latest_clock

-- the code's key and candidate
pub as_soliciting : {b b₁ : List ℕ} {r : Bool} (q : Asked) {j : Key} {x : Candidate} → j ≡ wtxid q.h → x ≡ soliciting q.n q.h q.now → Answered b b₁ r (λ m t. announce_at m j x t)
    → Answered b b₁ r (λ m t. announce_at m (wtxid q.h) (soliciting q.n q.h q.now) t)
as_soliciting {b} {b₁} {r} q {j} {x} e g a = subst (λ (y : Candidate). Answered b b₁ r (λ m t. announce_at m (wtxid q.h) y t)) g (subst (λ (i : Key). Answered b b₁ r (λ m t. announce_at m i x t)) e a)

abbrev free : ℕ → ℕ → Table → Bool
free n h t = eqb (owned_at h t) 0 && ltb (owned_by n t) max_in_flight

module _ (q : Asked) {b : List ℕ} {r₀ : Bool} (may : Tells b (λ t. r₀ ≡ free q.n q.h t)) where
  pub solicit-barred : r₀ ≡ false → Answered b b false (λ m t. solicit m q.n q.h q.hs q.now t)
  unfolding solicit
  solicit-barred e = record { reply = λ st s w. rw (sym (may st s w) ∙ e) refl; table = λ st s w. rw (sym (may st s w) ∙ e) w }

  module _ (y : r₀ ≡ true) {b₁ : List ℕ} {r₁ : Bool} (a : Answered b b₁ r₁ (λ m t. announce_at m (wtxid q.h) (soliciting q.n q.h q.now) t)) where
    abbrev after : State → State
    after st = on_table (announce_at (limits_of st) (wtxid q.h) (soliciting q.n q.h q.now) st.table).table st

    follows : (st : State) → Sound st → Follows (limits_of st) st.places st.table (after st).table
    follows st s = follows-announce_at (wtxid q.h) (soliciting q.n q.h q.now) q.small
        (record { item = refl; positive = q.peer.positive; connection = q.peer.small; ready = omega arith; priority = omega arith })
        s.bounded

    after-sound : (st : State) → Sound st → Sound (after st)
    after-sound st s = sound-table s (follows st s).bounded

    pub announced_kept : Kept b → Kept b₁
    announced_kept k = record { state = after k.state; sound = after-sound k.state k.sound; writes = a.table k.state k.sound k.writes }

    module _ {j : Key} (e : j ≡ wtxid q.h) {r₂ : Bool} (holds : Tells b₁ (λ t. r₂ ≡ has q.n (at j t).candidates)) where
      has_is : (st : State) → Sound st → Writes b st → has q.n (at (wtxid q.h) (after st).table).candidates ≡ r₂
      has_is st s w = sym (holds (after st) (after-sound st s) (a.table st s w) ∙ ap (λ (i : Key). has q.n (at i (after st).table).candidates) e)

      pub solicit-refused : r₂ ≡ false → Answered b b₁ false (λ m t. solicit m q.n q.h q.hs q.now t)
      unfolding solicit
      solicit-refused d = record { reply = λ st s w. rw (sym (may st s w) ∙ y, has_is st s w ∙ d) refl; table = λ st s w. rw (sym (may st s w) ∙ y, has_is st s w ∙ d) (a.table st s w) }

      module _ (d : r₂ ≡ true) (room : Room b q.n q.h q.hs q.now) where
        replies : (st : State) → Sound st → Writes b st → (solicit (limits_of st) q.n q.h q.hs q.now st.table).reply ≡ true
        unfolding solicit
        replies st s w = rw (sym (may st s w) ∙ y, has_is st s w ∙ d) refl

        after-may : (st : State) → Sound st → Writes b st → MayOwn q.n q.h (after st).table
        after-may st s w =
            let f : free q.n q.h st.table ≡ true = sym (may st s w) ∙ y in
            let x = eqb-true (owned_at q.h st.table) 0 (and_left (eqb (owned_at q.h st.table) 0) (ltb (owned_by q.n st.table) max_in_flight) f) in
            let z = ltb-true (owned_by q.n st.table) max_in_flight (and_right (eqb (owned_at q.h st.table) 0) _ f) in
            record { held = has_is st s w ∙ d; free = omega (arith, (follows st s).no-owner (under q.h)); few = omega (arith, (follows st s).no-owner (by q.n)) }

        after-room : (st : State) → Sound st → Writes b st → places_held (after st).table < st.places
        after-room st s w = omega (arith, (follows st s).no_place, room st s w (replies st s w))

        pub may-keeps : Kept b → Keeps b₁ (MayOwn q.n q.h)
        may-keeps k = record {
          state = after k.state;
          sound = after-sound k.state k.sound;
          writes = a.table k.state k.sound k.writes;
          holds = after-may k.state k.sound k.writes;
        }

        pub room_left : Kept b → held_places_in b₁ < places_in b₁
        room_left k = place-in (after k.state) (a.table k.state k.sound k.writes) (after-room k.state k.sound k.writes)

        -- owner and flag set
        module _ {b₂ : List ℕ} (own : Makes b₁ b₂ (MayOwn q.n q.h) (change (wtxid q.h) (solicited q.n (q.now + request_lifetime) []))) where
          abbrev opened : State → State
          opened st = on_table (change (wtxid q.h) (solicited q.n (q.now + request_lifetime) []) (after st).table) st

          abbrev opened-keeps_of : (st : State) → Sound st → Writes b st → Keeps b₂ (λ t. Opened (at (wtxid q.h) t))
          opened-keeps_of st s w = record {
            state = opened st;
            sound = opened-sound (after st) (after-sound st s) q.n q.h q.now q.small q.late (after-may st s w) (after-room st s w);
            writes = own (after st) (after-sound st s) (a.table st s w) (after-may st s w);
            holds = opened_at (after st) (after-sound st s) q.n q.h q.now q.small q.late (after-may st s w);
          }

          pub opened-keeps : Kept b → Keeps b₂ (λ t. Opened (at (wtxid q.h) t))
          opened-keeps k = opened-keeps_of k.state k.sound k.writes

          -- and the parents
          pub solicit_done : {b₃ : List ℕ} → Makes b₂ b₃ (λ t. Opened (at (wtxid q.h) t)) (change (wtxid q.h) (given (dedup q.hs))) → Answered b b₃ true (λ m t. solicit m q.n q.h q.hs q.now t)
          unfolding solicit
          solicit_done {b₃} add = record { reply = λ st s w. rw (sym (may st s w) ∙ y, has_is st s w ∙ d) refl; table = λ st s w. rw (sym (may st s w) ∙ y, has_is st s w ∙ d) (all_done st s w) }
            where
              all_done : (st : State) → Sound st → Writes b st → Writes b₃ (on_table (change (wtxid q.h) (solicited q.n (q.now + request_lifetime) (dedup q.hs)) (after st).table) st)
              all_done st s w =
                  let x = opened-keeps_of st s w in
                  let cands = some_candidate (after st) (after-sound st s) q.n q.h q.now q.small q.late (after-may st s w) in
                  subst (λ (t : Table). Writes b₃ (on_table t st)) (change-twice (wtxid q.h) (solicited q.n (q.now + request_lifetime) []) (given (dedup q.hs)) (λ r. refl) 0 (after st).table
                  (after-sound st s).bounded.ordered cands) (add (opened st) x.sound x.writes x.holds)
