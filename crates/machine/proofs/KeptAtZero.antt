-- A call that replies 0 leaves the state as it was.
use Prim.Native.Nat.{ℕ, suc, ◌≤◌}
use mathlib.Core.Path.{◌≡◌, refl, sym, ap, ◌∙◌}
use mathlib.Core.Logic.{inl, inr}
use mathlib.Core.Bool.{Bool, true, false, ◌&&◌}
use mathlib.Core.List.{List, [], ◌∷◌}
use mathlib.Core.Option.{Option, none, some}
use native.Mathlib.Omega.{arith}
use lib.Dec.{ltb, eqb}
use Rattle.ident.specs.Number.{Key, place, other, wtxid, key_of}
use Rattle.machine.specs.Limits.{Limits, max_in_flight}
use Rattle.machine.specs.State.{Candidate, Package, Request, Table, State, limits_of, Entry, Answer, on_table, with_next_poll, is_some}
use Rattle.machine.specs.Table.{at, one, has, owned_by, owned_at}
use Rattle.machine.specs.Announce.{announce_at, announce_keyed, adopted, request_parent_at, request_parent_keyed}
use Rattle.machine.specs.Fail.{releasable, failed}
use Rattle.machine.specs.Package.{soliciting, solicit, may_claim, claim_package, may_begin, begin_resolution, info_owned, failed_package_info, package_keys, tear_each, teardown}
use Rattle.machine.specs.Wrapper.{due_at, next_poll_after}
use Rattle.machine.specs.Call.{Ask, Announce, RequestParent, Failed, Unclaim, SolicitPackageInfo, ClaimPackage, BeginPackageResolution, AnnounceParents, FailedPackageClaims}
use Rattle.machine.specs.Call.{Plan, Claim, Sweep, Disconnected, ReleasePackage, TeardownPackageClaims, Forget, ForgetKnown, FailedWithParents, FailedPackageInfo}
use Rattle.machine.specs.Call.{PackageInfoOwner, AnnounceTransactions, TransactionResponseCompleted, TransactionNotFound, PollGate, Arrange, Sum, OwnersOf, Call, Open, On, refusal, Save}
use Rattle.machine.specs.Call.{Restore}
use Rattle.machine.specs.Step.{Number, Keys, Entries, answered, perform, carry_out, step_if}
use Rattle.machine.specs.Sound.{Packed, Ordered, All, Lawful, Sound}
use Rattle.machine.specs.Replies.{KeptAt0}
use Rattle.machine.proofs.Tests.{test, by_test, never}
use Rattle.machine.proofs.At.{at_here, at_there}
use Rattle.machine.proofs.Entered.{enters}

-- an answer that is the Rust's `false` leaves the table t
pub record Kept (t : Table) (a : Answer) : Type 0 where
  pub same : a.reply ≡ false → a.table ≡ t

module _ (t : Table) where
  stays : Kept t (record { reply = false; table = t })
  stays = record { same = λ e. refl }

  goes : (x : Table) → Kept t (record { reply = true; table = x })
  goes x = record { same = λ e. never (sym e) }

  -- ---- announce, request_parent

  kept_announce_at : (m : Limits) (k : Key) (c : Candidate) → Kept t (announce_at m k c t)
  kept_announce_at m k c = record { same = (enters m k c t).stays }

  kept_announce : (m : Limits) (o : Option Key) (c : Candidate) → Kept t (announce_keyed m o c t)
  unfolding announce_keyed
  kept_announce m none c = stays
  kept_announce m (some k) c = kept_announce_at m k c

  kept_parent_at : (m : Limits) (k : Key) (c : Candidate) → Kept t (request_parent_at m k c t)
  unfolding request_parent_at
  kept_parent_at m k c =
      by_test (Kept t) (has c.connection (at k t).candidates) (λ e. goes (adopted true k c t)) λ e.
      by_test (Kept t) (has c.connection (at (other k) t).candidates) (λ e. goes (adopted false (other k) c t)) λ e.
      kept_announce_at m k c

  kept_parent : (m : Limits) (o : Option Key) (c : Candidate) → Kept t (request_parent_keyed m o c t)
  unfolding request_parent_keyed
  kept_parent m none c = stays
  kept_parent m (some k) c = kept_parent_at m k c

  -- ---- failed, and the calls on packages

  kept_failed : (k : Key) (n now : ℕ) → Kept t (failed k n now t)
  unfolding failed
  kept_failed k n now = by_test (Kept t) (releasable n (at k t)) (λ e. goes _) (λ e. stays)

  kept_info : (k : Key) (n now : ℕ) → Kept t (failed_package_info k n now t)
  unfolding failed_package_info
  kept_info k n now = by_test (Kept t) (info_owned n (at k t)) (λ e. kept_failed k n now) (λ e. stays)

  kept_claim : (n h c : ℕ) (ws : List ℕ) (now : ℕ) → Kept t (claim_package n h c ws now t)
  unfolding claim_package
  kept_claim n h c ws now = by_test (Kept t) (may_claim n ws now (at (wtxid h) t)) (λ e. goes _) (λ e. stays)

  kept_begin : (n h c : ℕ) (ws : List ℕ) (now : ℕ) → Kept t (begin_resolution n h c ws now t)
  unfolding begin_resolution
  kept_begin n h c ws now = by_test (Kept t) (may_begin n c ws now (at (wtxid h) t)) (λ e. goes _) (λ e. stays)

  -- one that came in is a candidate: a solicitation that replies 0 has announced nothing
  kept_solicit : (m : Limits) (n h : ℕ) (hs : List ℕ) (now : ℕ) → Kept t (solicit m n h hs now t)
  unfolding solicit
  kept_solicit m n h hs now =
      let a = announce_at m (wtxid h) (soliciting n h now) t in
      let x = enters m (wtxid h) (soliciting n h now) t in
      by_test (Kept t) (eqb (owned_at h t) 0 && ltb (owned_by n t) max_in_flight)
      (λ e. by_test (Kept t) (has n (at (wtxid h) a.table).candidates) (λ d. goes _)
      (λ d. elim (test a.reply) [
        | inl r ↦ never (sym d ∙ x.came r)
        | inr r ↦ record { same = λ z. x.stays r }
      ]))
      (λ e. stays)

-- ---- teardown_package_claims: none cleared, none there

pub packed-owned : (r : Request) → Lawful r → is_some r.«package» ≡ true → is_some r.owner ≡ true
packed-owned r l e = go r.info r.«package» l.packed e
  where
    go : (i : Bool) (p : Option Package) → Packed r.key.kind r.owner i p r.parents → is_some p ≡ true → is_some r.owner ≡ true
    go true (some p) k e = absurd k
    go false (some p) k e = k.0
    go true none k e = never e
    go false none k e = never e

-- the first key of these, if any, is owned
abbrev HeadOwned : ℕ → Table → List Key → Type 0
HeadOwned lo t [] = Unit {0}
HeadOwned lo t (k ∷ ks) = (lo ≤ place k) × (is_some (at k t).owner ≡ true)

head-owned : (lo : ℕ) (t : Table) → Ordered lo t → All Lawful t → HeadOwned lo t (package_keys t)
unfolding package_keys
head-owned lo [] o l = tt
head-owned lo (r ∷ t) o l =
    by_test (HeadOwned lo (r ∷ t)) (is_some r.«package»)
    (λ e. (o.0, ap (λ (q : Request). is_some q.owner) (at_here r.key r t refl) ∙ packed-owned r l.0 e))
    (λ e. later (package_keys t) (head-owned (suc (place r.key)) t o.2 l.1))
  where
    later : (ks : List Key) → HeadOwned (suc (place r.key)) t ks → HeadOwned lo (r ∷ t) ks
    later [] h = tt
    later (k ∷ ks) h = (omega (arith, h.0, o.0), ap (λ (q : Request). is_some q.owner) (at_there k r t (λ e. omega (arith, h.0))) ∙ h.1)

none_torn : (now : ℕ) (t : Table) (ks : List Key) → HeadOwned 0 t ks → (tear_each now ks t).cleared ≡ 0 → (tear_each now ks t).table ≡ t
unfolding tear_each
none_torn now t [] h e = refl
none_torn now t (k ∷ ks) h e = absurd (omega (arith, rw h.1 at e))

-- ---- every call

number_is : {m n : ℕ} → Number m ≡ Number n → m ≡ n
number_is e = cc

kept_answer : (a : Answer) (s : State) → Kept s.table a → (answered a s).reply ≡ Number 0 → (answered a s).state ≡ s
kept_answer a s k e =
    elim (test a.reply) [
      | inl r ↦ absurd (omega (arith, number_is e, ap one r))
      | inr r ↦ ap (λ (t : Table). on_table t s) (k.same r)
    ]

other_reply : {X : Type 0} → Number 1 ≡ Number 0 → X
other_reply e = absurd (omega (arith, number_is e))

no_keys : {X : Type 0} {ks : List Key} → Keys ks ≡ Number 0 → X
no_keys e = let z : ◌≡◌ {A = ℕ} 0 1 = cc in absurd (omega arith)

no-entries : {X : Type 0} {l : List Entry} → Entries l ≡ Number 0 → X
no-entries e = let z : ◌≡◌ {A = ℕ} 0 1 = cc in absurd (omega arith)

kept_gate : (now : ℕ) (s : State) (o : Option ℕ) → s.next_poll ≡ o → one (due_at now o) ≡ 0 → next_poll_after now o ≡ o
kept_gate now s o d e = elim (test (due_at now o)) [ inl y ↦ absurd (omega (arith, ap one y)) | inr y ↦ rw y ]

kept_perform : (a : Ask) (s : State) → Sound s → (perform a s).reply ≡ Number 0 → (perform a s).state ≡ s
unfolding perform teardown
kept_perform (Announce c) s g e = kept_answer _ s (kept_announce s.table (limits_of s) (key_of c.item) c) e
kept_perform (RequestParent c) s g e = kept_answer _ s (kept_parent s.table (limits_of s) (key_of c.item) c) e
kept_perform (Failed k n now) s g e = kept_answer _ s (kept_failed s.table k n now) e
kept_perform (Unclaim k n) s g e = other_reply e
kept_perform (SolicitPackageInfo n h hs now) s g e = kept_answer _ s (kept_solicit s.table (limits_of s) n h hs now) e
kept_perform (ClaimPackage n h c ws now) s g e = kept_answer _ s (kept_claim s.table n h c ws now) e
kept_perform (BeginPackageResolution n h c ws now) s g e = kept_answer _ s (kept_begin s.table n h c ws now) e
kept_perform (AnnounceParents n hs now b) s g e = no_keys e
kept_perform (FailedPackageClaims n cs now b) s g e = no_keys e
kept_perform (Plan now ks b) s g e = let z : ◌≡◌ {A = ℕ} 0 1 = cc in absurd (omega arith)
kept_perform (Claim now l b) s g e = no-entries e
kept_perform (Sweep b) s g e = no_keys e
kept_perform (Disconnected n now b) s g e = let z : ◌≡◌ {A = ℕ} 0 1 = cc in absurd (omega arith)
kept_perform (ReleasePackage n h now b) s g e = no_keys e
kept_perform (TeardownPackageClaims now) s g e =
    ap (λ (t : Table). on_table t s) (none_torn now s.table (package_keys s.table) (head-owned 0 s.table g.bounded.ordered g.bounded.lawful) (number_is e))
kept_perform (Forget k) s g e = other_reply e
kept_perform (ForgetKnown k now) s g e = other_reply e
kept_perform (FailedWithParents k n now b) s g e = no_keys e
kept_perform (FailedPackageInfo k n now) s g e = kept_answer _ s (kept_info s.table k n now) e
kept_perform (PackageInfoOwner k now) s g e = refl
kept_perform (AnnounceTransactions n now p w os) s g e = other_reply e
kept_perform (TransactionResponseCompleted n x w now) s g e = other_reply e
kept_perform (TransactionNotFound n l now b) s g e = no_keys e
kept_perform (PollGate now) s g e = ap (λ (p : Option ℕ). with_next_poll p s) (kept_gate now s s.next_poll refl (number_is e))
kept_perform (Arrange ws l b) s g e = refl
kept_perform Sum s g e = refl
kept_perform (OwnersOf hs b) s g e = refl
kept_perform (Save b) s g e = refl

kept_carry_out : (c : Call) (s : State) → Sound s → (carry_out c s).reply ≡ Number 0 → (carry_out c s).state ≡ s
unfolding carry_out
kept_carry_out (Open L Q) s g e = other_reply e
kept_carry_out (Restore x) s g e = other_reply e
kept_carry_out (On a) s g e = kept_perform a s g e

pub kept_at_0 : KeptAt0
unfolding step_if
kept_at_0 n c s g e = elim (test (eqb (refusal n true c s) 0)) [ inl r ↦ rw r (kept_carry_out c s g (rw r at e)) | inr r ↦ rw r ]
