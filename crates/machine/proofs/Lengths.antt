-- Every answer fits the buffer need that document 01 names, and so the buffer of a call that is carried out.
use Prim.Native.Nat.{ℕ, ◌+◌, ◌*◌, ◌≤◌, ◌<◌, min}
use mathlib.Core.Path.{◌≡◌, refl}
use mathlib.Core.Bool.{true}
use mathlib.Core.List.{List, ◌++◌}
use native.Mathlib.Omega.{arith}
use lib.Dec.{eqb}
use lib.ListN.{length, drop, length-append, length-drop}
use borrow.Author.Tests.{eqb-true}
use Rattle.ident.specs.Number.{Key, wtxid}
use Rattle.machine.specs.Limits.{Limits, max_peer_announcements, max_parents, word}
use Rattle.machine.specs.State.{Table, Entry, State, limits_of, done}
use Rattle.machine.specs.Table.{at, keys}
use Rattle.machine.specs.Fail.{Listed, parents_for, failed, leaves}
use Rattle.machine.specs.Package.{enqueued_by, failed_with_parents, release_package}
use Rattle.machine.specs.Leave.{disconnected}
use Rattle.machine.specs.Call.{Ask, Announce, RequestParent, Failed, Unclaim, SolicitPackageInfo, ClaimPackage, BeginPackageResolution, AnnounceParents, FailedPackageClaims, Plan}
use Rattle.machine.specs.Call.{Claim, Sweep}
use Rattle.machine.specs.Call.{Disconnected, ReleasePackage, TeardownPackageClaims, Forget, ForgetKnown, FailedWithParents, FailedPackageInfo, PackageInfoOwner, AnnounceTransactions}
use Rattle.machine.specs.Call.{TransactionResponseCompleted, TransactionNotFound, PollGate, Arrange, Sum, OwnersOf, key_bytes, entry_bytes, Call, Open, On, named, opening_refusal, ask_refusal}
use Rattle.machine.specs.Call.{refusal, Save, Restore, restore_refusal}
use Rattle.machine.specs.Listing.{read_listing}
use Rattle.machine.specs.Step.{perform, carry_out, written, buffer_of, step_if, step, keys_answer, entries_answer, answer_bytes}
use Rattle.machine.specs.Sound.{Bounded, Sound}
use Rattle.machine.specs.Typed.{AskTyped, CallTyped}
use Rattle.machine.proofs.Tests.{by_test}
use Rattle.machine.proofs.Table.{lawful_at}
use Rattle.machine.proofs.Kept.{Carried, carried, peer}
use Rattle.machine.proofs.AnswerLengths.{length-keys_answer, length-entries_answer, keys_held, length-handed, length-claim}
use Rattle.machine.proofs.AnswerLengths.{length-arrange, length-announce_parents, length-listed_after, length-parents_for}
use Rattle.machine.proofs.Owners.{length-holdings}
use Rattle.machine.proofs.Chosen.{length-plan}
use Rattle.machine.proofs.Failing.{length-failed_package_claims, length-not_found}
use Rattle.machine.proofs.Leaving.{length-own, length-handed_on}

-- ---- lists of keys and of entries in bytes

keys-fit : (ks : List Key) (n : ℕ) → length ks ≤ n → length (keys_answer ks) ≤ key_bytes * n
keys-fit ks n h = omega (arith, length-keys_answer ks)

entries_fit : (l : List Entry) (n : ℕ) → length l ≤ n → length (entries_answer l) ≤ entry_bytes * n
entries_fit l n h = omega (arith, length-entries_answer l)

-- ---- a key with its parents

pub length-failed_with_parents : {m : Limits} {Q : ℕ} {t : Table} (k : Key) (n now : ℕ) → Bounded m Q t → length (failed_with_parents m k n now t).keys ≤ max_parents + 1
unfolding failed_with_parents
length-failed_with_parents {m} {Q} {t} k n now b = omega (arith, length-listed_after m k n now (parents_for n (at k t)) (failed k n now t), length-parents_for n (at k t) (lawful_at k t b.lawful))

pub length-release_package : {m : Limits} {Q : ℕ} {t : Table} (n h now : ℕ) → Bounded m Q t → length (release_package m n h now t).keys ≤ max_parents + 1
unfolding release_package
length-release_package {m} {Q} {t} n h now b =
    let k = wtxid h in
    by_test (λ (x : Listed). length x.keys ≤ max_parents + 1) (enqueued_by n (at k t))
    (λ e. omega (arith, length-listed_after m k n now (parents_for n (at k t)) (done (leaves k n now t)), length-parents_for n (at k t) (lawful_at k t b.lawful))) (λ e. omega arith)

pub length-disconnected : {m : Limits} {Q : ℕ} {t : Table} (n now : ℕ) → now < word → Bounded m Q t
    → length ((disconnected m n now t).own ++ (disconnected m n now t).parents) ≤ min max_peer_announcements m.announcements + max_parents * Q
length-disconnected {m} {Q} {t} n now w b = omega (arith, length-append (disconnected m n now t).own (disconnected m n now t).parents, length-own n now w b, length-handed_on n now w b, b.room)

-- ---- the theorem

fits : (a : Ask) (s : State) → AskTyped a → Sound s → Carried a s → length (answer_bytes (perform a s).reply) ≤ (named a s).needs
unfolding perform named
fits (Announce c) s w g r = omega arith
fits (RequestParent c) s w g r = omega arith
fits (Failed k n now) s w g r = omega arith
fits (Unclaim k n) s w g r = omega arith
fits (SolicitPackageInfo n h hs now) s w g r = omega arith
fits (ClaimPackage n h c ws now) s w g r = omega arith
fits (BeginPackageResolution n h c ws now) s w g r = omega arith
fits (AnnounceParents n hs now b) s w g r = keys-fit _ (max_parents + 1) (omega (arith, length-announce_parents (limits_of s) n now hs s.table, r.parents))
fits (FailedPackageClaims n cs now b) s w g r = keys-fit _ _ (omega (arith, length-failed_package_claims n cs now (peer n r.connections w.0) w.2 g.bounded, g.bounded.room))
fits (Plan now ks b) s w g r = entries_fit _ _ (omega (arith, length-plan now ks s w.0 w.1 g))
fits (Claim now l b) s w g r = entries_fit _ _ (length-claim now l s.table)
fits (Sweep b) s w g r = keys-fit _ _ (omega (arith, length-handed s.known_cursor (keys s.table), keys_held s.table g.bounded.filled, g.bounded.fits))
fits (Disconnected n now b) s w g r = keys-fit _ _ (omega (arith, length-disconnected n now w.1 g.bounded))
fits (ReleasePackage n h now b) s w g r = keys-fit _ _ (length-release_package n h now g.bounded)
fits (TeardownPackageClaims now) s w g r = omega arith
fits (Forget k) s w g r = omega arith
fits (ForgetKnown k now) s w g r = omega arith
fits (FailedWithParents k n now b) s w g r = keys-fit _ _ (length-failed_with_parents k n now g.bounded)
fits (FailedPackageInfo k n now) s w g r = omega arith
fits (PackageInfoOwner k now) s w g r = omega arith
fits (AnnounceTransactions n now p v os) s w g r = omega arith
fits (TransactionResponseCompleted n x y now) s w g r = omega arith
fits (TransactionNotFound n l now b) s w g r = keys-fit _ _ (omega (arith, length-not_found n now l (peer n r.connections w.0) w.2 w.1 g.bounded, g.bounded.room))
fits (PollGate now) s w g r = omega arith
fits (Arrange ws l b) s w g r = entries_fit _ _ (omega (arith, length-arrange ws l s.table))
fits Sum s w g r = omega arith
fits (OwnersOf hs b) s w g r = omega (arith, length-holdings hs s.table)
fits (Save b) s w g r = omega arith

pub answer-fits : (a : Ask) (s : State) → AskTyped a → Sound s → ask_refusal true a s ≡ 0 → length (answer_bytes (perform a s).reply) ≤ (named a s).needs
answer-fits a s w g e = fits a s w g (carried a s e)

-- the buffer was tested against the need
pub answer_in_buffer : (a : Ask) (s : State) → AskTyped a → Sound s → ask_refusal true a s ≡ 0 → length (answer_bytes (perform a s).reply) ≤ length (named a s).buffer
answer_in_buffer a s w g e = omega (arith, answer-fits a s w g e, (carried a s e).buffer)

-- ---- a step keeps the length of the buffer

length_written : (x b : List ℕ) → length x ≤ length b → length (written x b) ≡ length b
unfolding written
length_written x b h = omega (arith, length-append x (drop (length x) b), length-drop (length x) b)

pub buffer-length : (n : ℕ) (c : Call) (s : State) → CallTyped c → Sound s → length (step n c s).buffer ≡ length (buffer_of c s)
unfolding step_if refusal carry_out written
buffer-length n (Open L Q) s w g = by_test (λ (b : List ℕ). length b ≡ 0) (eqb (opening_refusal n L Q) 0) (λ e. refl) (λ e. refl)
buffer-length n (Restore x) s w g = by_test (λ (b : List ℕ). length b ≡ 0) (eqb (restore_refusal n (read_listing x)) 0) (λ e. refl) (λ e. refl)
buffer-length n (On a) s w g =
    by_test (λ (b : List ℕ). length b ≡ length (named a s).buffer) (eqb (ask_refusal true a s) 0)
    (λ e. length_written (answer_bytes (perform a s).reply) (named a s).buffer (answer_in_buffer a s w g (eqb-true _ _ e))) (λ e. refl)
