-- Every call keeps a sound state sound.
use Prim.Native.Nat.{ℕ, suc, ◌+◌, ◌≤◌, ◌<◌}
use mathlib.Core.Path.{◌≡◌, refl}
use mathlib.Core.Logic.{inl, inr}
use mathlib.Core.Bool.{Bool, true, false, not, ◌&&◌}
use mathlib.Core.List.{List, [], ◌∷◌}
use mathlib.Core.Option.{Option, none, some}
use native.Mathlib.Omega.{arith}
use lib.Dec.{ltb, leb, eqb}
use lib.ListN.{length}
use borrow.Author.Tests.{ltb-false, leb-true, leb-false, eqb-true, eqb-false}
use Rattle.std.specs.Prelude.{if◌then◌else◌}
use Rattle.ident.specs.Number.{Key}
use Rattle.machine.specs.Limits.{Limits, max_announcements, max_places, max_parents, request_lifetime, latest_clock, word}
use Rattle.machine.specs.State.{Table, State, limits_of, on_table}
use Rattle.machine.specs.Table.{total, places_held}
use Rattle.machine.specs.Plan.{plan}
use Rattle.machine.specs.Claim.{elem}
use Rattle.machine.specs.Call.{Ask, Announce, RequestParent, Failed, Unclaim, SolicitPackageInfo, ClaimPackage, BeginPackageResolution, AnnounceParents}
use Rattle.machine.specs.Call.{FailedPackageClaims, Plan, Claim, Sweep, Disconnected, ReleasePackage, TeardownPackageClaims, Forget, ForgetKnown}
use Rattle.machine.specs.Call.{FailedWithParents, FailedPackageInfo, PackageInfoOwner, AnnounceTransactions, TransactionResponseCompleted}
use Rattle.machine.specs.Call.{TransactionNotFound, PollGate, Arrange, Sum, OwnersOf, Call, Open, On, named, any_late, takes_place, late, sizes_taken, opening_refusal, ask_refusal, refusal, Save}
use Rattle.machine.specs.Call.{Restore, restore_refusal}
use Rattle.machine.specs.Step.{perform, empty, carry_out, step_if, step, restored}
use Rattle.machine.specs.Listing.{read_listing}
use Rattle.machine.specs.SoundTest.{is_sound}
use Rattle.machine.specs.Sound.{Hashes, CursorFits, PollFits, Bounded, Sound}
use Rattle.machine.specs.Typed.{AskTyped, CallTyped}
use Rattle.machine.proofs.Tests.{test, by_test, never, and_left, and_right, or_left}
use Rattle.machine.proofs.SoundTest.{passes-sound}
use Rattle.machine.proofs.Announce.{bounded-announce}
use Rattle.machine.proofs.Fail.{Peer, FewHashes, bounded-failed, bounded-unclaim, bounded-forget, bounded-request_parent, bounded-parents}
use Rattle.machine.proofs.Package.{bounded-solicit, bounded-claim_package, bounded-begin, bounded-failed_package_info}
use Rattle.machine.proofs.Package.{bounded-failed_with_parents, bounded-release, bounded-failed_package_claims, bounded-teardown}
use Rattle.machine.proofs.Leave.{bounded-forget_known, bounded-disconnected}
use Rattle.machine.proofs.Plan.{bounded-expired, swept-cursor, plan-cursor}
use Rattle.machine.proofs.Claim.{bounded-claim}
use Rattle.machine.proofs.Wrapper.{bounded-announce_transactions, bounded-response_completed, bounded-not_found, gate-poll}

-- ---- an opened store

bounded-empty : (m : Limits) (Q : ℕ) → Bounded m Q []
unfolding total
bounded-empty m Q = record {
  ordered = tt;
  filled = tt;
  lawful = tt;
  fits = omega arith;
  each = λ n. omega arith;
  alternates = λ h. omega arith;
  once = λ n h. omega arith;
  owned = λ n. omega arith;
  single = λ h. omega arith;
  room = omega arith;
}

pub sound_empty : (L Q : ℕ) → sizes_taken L Q ≡ true → Sound (empty L Q)
sound_empty L Q e =
    let l = and_left (leb 1 L && leb L max_announcements) (leb 1 Q && leb Q max_places) e in
    let q = and_right (leb 1 L && leb L max_announcements) (leb 1 Q && leb Q max_places) e in
    record {
      some_limit = leb-true 1 L (and_left _ _ l);
      most-limit = leb-true L max_announcements (and_right (leb 1 L) _ l);
      some_place = leb-true 1 Q (and_left _ _ q);
      most-places = leb-true Q max_places (and_right (leb 1 Q) _ q);
      bounded = bounded-empty (limits_of (empty L Q)) Q;
      poll = tt;
      known = tt;
      ready = tt;
    }

-- ---- what a call that is not refused has

-- the tests 4 to 8, passed
pub record Carried (a : Ask) (s : State) : Type 0 where
  pub connections : elem 0 (named a s).connections ≡ false
  pub clocks : any_late (named a s).clocks ≡ false
  pub parents : (named a s).parents ≤ max_parents
  pub late : late a s ≡ 0
  pub buffer : (named a s).needs ≤ length (named a s).buffer
  pub place : takes_place a s ≡ true → places_held s.table < s.places

-- a test of the table that refuses by a number of 1 or more
passed : (b : Bool) (n x : ℕ) → (if b then suc n else x) ≡ 0 → (b ≡ false) × (x ≡ 0)
passed true n x e = absurd (omega arith)
passed false n x e = (refl, e)

timely : (n x : ℕ) → (if not (eqb n 0) then n else x) ≡ 0 → (n ≡ 0) × (x ≡ 0)
timely n x e = elim (test (eqb n 0)) [ inl d ↦ (eqb-true n 0 d, rw d at e) | inr d ↦ absurd (eqb-false n 0 d (rw d at e)) ]

place-free : (a : Bool) (Q held : ℕ) → (a && leb Q held) ≡ false → a ≡ true → held < Q
place-free true Q held d e = leb-false Q held d
place-free false Q held d e = never e

pub carried : (a : Ask) (s : State) → ask_refusal true a s ≡ 0 → Carried a s
unfolding ask_refusal
carried a s e₀ =
    let e₁ = passed (elem 0 (named a s).connections) 3 _ e₀ in
    let e₂ = passed (any_late (named a s).clocks) 4 _ e₁.1 in
    let e₃ = passed (ltb max_parents (named a s).parents) 5 _ e₂.1 in
    let e₁₃ = timely (late a s) _ e₃.1 in
    let e₄ = passed (ltb (length (named a s).buffer) (named a s).needs) 6 _ e₁₃.1 in
    let e₅ = passed (takes_place a s && leb s.places (places_held s.table)) 7 _ e₄.1 in
    record {
      connections = e₁.0;
      clocks = e₂.0;
      parents = ltb-false max_parents (named a s).parents e₃.0;
      late = e₁₃.0;
      buffer = ltb-false (length (named a s).buffer) (named a s).needs e₄.0;
      place = place-free (takes_place a s) s.places (places_held s.table) e₅.0;
    }

-- connection 0 is refused
pub positive : (n : ℕ) → elem 0 (n ∷ []) ≡ false → 0 < n
unfolding elem
positive n e = omega (arith, eqb-false n 0 (or_left (eqb n 0) false e))

pub peer : (n : ℕ) → elem 0 (n ∷ []) ≡ false → n < word → Peer n
peer n e w = record { positive = positive n e; small = w }

-- a late clock is refused
pub on_time : (now : ℕ) → any_late (now ∷ []) ≡ false → now + request_lifetime < word
unfolding any_late
on_time now e = omega (arith, ltb-false latest_clock now (or_left (ltb latest_clock now) false e))

few_hashes : (hs : List ℕ) → Hashes hs → length hs ≤ max_parents → FewHashes hs
few_hashes hs a l = record { hashes = a; few = l }

-- ---- a call that is carried out

-- a call leaves L and Q; the rest of the state is given with its laws
sound_with : {s : State} {t : Table} {p : Option ℕ} {c d : Option Key} → Sound s → Bounded (limits_of s) s.places t → PollFits p → CursorFits c → CursorFits d
    → Sound (record { limit = s.limit; places = s.places; table = t; next_poll = p; known_cursor = c; ready_cursor = d })
sound_with g b p c d = record { some_limit = g.some_limit; most-limit = g.most-limit; some_place = g.some_place; most-places = g.most-places; bounded = b; poll = p; known = c; ready = d }

pub sound-table : {s : State} {t : Table} → Sound s → Bounded (limits_of s) s.places t → Sound (on_table t s)
sound-table g b = sound_with g b g.poll g.known g.ready

pub sound-perform : (a : Ask) (s : State) → AskTyped a → Carried a s → Sound s → Sound (perform a s).state
unfolding perform plan named takes_place
sound-perform (Announce c) s w r g = sound-table g (bounded-announce c (positive c.connection r.connections) w g.bounded)
sound-perform (RequestParent c) s w r g = sound-table g (bounded-request_parent c (positive c.connection r.connections) w g.bounded)
sound-perform (Failed k n now) s w r g = sound-table g (bounded-failed k n now w.0 w.2 g.bounded)
sound-perform (Unclaim k n) s w r g = sound-table g (bounded-unclaim k n w.0 g.bounded)
sound-perform (SolicitPackageInfo n h hs now) s w r g = sound-table g
    (bounded-solicit n h hs now (peer n r.connections w.0) w.1 (few_hashes hs w.2 r.parents) (on_time now r.clocks) r.place g.bounded)
sound-perform (ClaimPackage n h c ws now) s w r g = sound-table g (bounded-claim_package n h c ws now w.1 w.2 w.3 g.bounded)
sound-perform (BeginPackageResolution n h c ws now) s w r g = sound-table g (bounded-begin n h c ws now w.1 w.2 w.3 g.bounded)
sound-perform (AnnounceParents n hs now b) s w r g = sound-table g (bounded-parents n now hs (peer n r.connections w.0) w.2 (few_hashes hs w.1 r.parents) g.bounded)
sound-perform (FailedPackageClaims n cs now b) s w r g = sound-table g (bounded-failed_package_claims n cs now (peer n r.connections w.0) w.2 g.bounded)
sound-perform (Plan now ks b) s w r g = sound_with g (bounded-expired now s w.0 g) g.poll g.known (plan-cursor now ks s w.0 g)
sound-perform (Claim now l b) s w r g = sound-table g (bounded-claim now l (on_time now r.clocks) w.1 g.bounded)
sound-perform (Sweep b) s w r g = sound_with g g.bounded g.poll (swept-cursor s.known_cursor 0 s.table g.bounded.ordered) g.ready
sound-perform (Disconnected n now b) s w r g = sound-table g (bounded-disconnected n now w.1 g.bounded)
sound-perform (ReleasePackage n h now b) s w r g = sound-table g (bounded-release n h now w.1 w.2 g.bounded)
sound-perform (TeardownPackageClaims now) s w r g = sound-table g (bounded-teardown now w g.bounded)
sound-perform (Forget k) s w r g = sound-table g (bounded-forget k w g.bounded)
sound-perform (ForgetKnown k now) s w r g = sound-table g (bounded-forget_known k now w.0 w.1 g.bounded)
sound-perform (FailedWithParents k n now b) s w r g = sound-table g (bounded-failed_with_parents k n now w.0 (peer n r.connections w.1) w.2 g.bounded)
sound-perform (FailedPackageInfo k n now) s w r g = sound-table g (bounded-failed_package_info k n now w.0 w.2 g.bounded)
sound-perform (PackageInfoOwner k now) s w r g = g
sound-perform (AnnounceTransactions n now p v os) s w r g = sound-table g (bounded-announce_transactions n now p v os (peer n r.connections w.0) (on_time now r.clocks) w.2 g.bounded)
sound-perform (TransactionResponseCompleted n x y now) s w r g = sound-table g (bounded-response_completed n x y now w.1 w.2 w.3 g.bounded)
sound-perform (TransactionNotFound n l now b) s w r g = sound-table g (bounded-not_found n now l (peer n r.connections w.0) w.2 w.1 g.bounded)
sound-perform (PollGate now) s w r g = sound_with g g.bounded (gate-poll now s.next_poll (on_time now r.clocks) g.poll) g.known g.ready
sound-perform (Arrange ws l b) s w r g = g
sound-perform Sum s w r g = g
sound-perform (OwnersOf hs b) s w r g = g
sound-perform (Save b) s w r g = g

-- ---- a call

-- an opening that is not refused has sizes that it takes
opening-takes : (n L Q : ℕ) → opening_refusal n L Q ≡ 0 → sizes_taken L Q ≡ true
unfolding opening_refusal
opening-takes n L Q e = elim (test (sizes_taken L Q)) [ inl d ↦ d | inr d ↦ absurd (omega (arith, rw d at e)) ]

-- a text that is not refused lists a sound state
pub restored-sound : (n : ℕ) (o : Option State) (s : State) → restore_refusal n o ≡ 0 → Sound (restored o s)
unfolding restore_refusal
restored-sound n none s e = absurd (omega arith)
restored-sound n (some t) s e = elim (test (is_sound t)) [ inl d ↦ passes-sound t d | inr d ↦ absurd (omega (arith, rw d at e)) ]

sound-carry_out : (n : ℕ) (c : Call) (s : State) → CallTyped c → refusal n true c s ≡ 0 → Sound s → Sound (carry_out c s).state
unfolding carry_out refusal
sound-carry_out n (Open L Q) s w e g = sound_empty L Q (opening-takes n L Q e)
sound-carry_out n (Restore x) s w e g = restored-sound n (read_listing x) s e
sound-carry_out n (On a) s w e g = sound-perform a s w (carried a s e) g

pub sound_step : (n : ℕ) (c : Call) (s : State) → CallTyped c → Sound s → Sound (step n c s).state
unfolding step_if
sound_step n c s w g = by_test Sound (eqb (refusal n true c s) 0) (λ e. sound-carry_out n c s w (eqb-true (refusal n true c s) 0 e) g) (λ e. g)
