-- The carried-out sweeps of a list of calls are successive batches: the known cursor is moved by sweep, opening and the reading of a listing alone, and
-- what is held at a sweep is in order.
use Prim.Native.Nat.{ℕ, ◌≤◌, suc}
use mathlib.Core.Path.{◌≡◌, refl, ap, ◌∙◌}
use mathlib.Core.Logic.{inl, inr}
use mathlib.Core.Bool.{true, false}
use mathlib.Core.List.{List, [], ◌∷◌, map}
use native.Mathlib.Omega.{arith}
use Rattle.ident.specs.declared.Kind.{Kind}
use Rattle.ident.specs.declared.Kind.TheVariants.{Txid, Wtxid}
use Rattle.std.specs.Prelude.{if◌then◌else◌}
use Rattle.ident.specs.Number.{base, top, Key, place}
use Rattle.machine.specs.Limits.{max_known_checks}
use Rattle.machine.specs.State.{Table, State}
use Rattle.machine.specs.Table.{keys}
use Rattle.machine.specs.Sweep.{last_of, handed}
use Rattle.machine.specs.Plan.{plan}
use Rattle.machine.specs.Sound.{Ordered}
use Rattle.machine.specs.Call.{Ask, Announce, RequestParent, Failed, Unclaim, SolicitPackageInfo, ClaimPackage, BeginPackageResolution, AnnounceParents}
use Rattle.machine.specs.Call.{FailedPackageClaims, Plan, Claim, Sweep, Disconnected, ReleasePackage, TeardownPackageClaims, Forget, ForgetKnown, FailedWithParents}
use Rattle.machine.specs.Call.{FailedPackageInfo, PackageInfoOwner, AnnounceTransactions, TransactionResponseCompleted, TransactionNotFound, PollGate, Arrange, Sum, OwnersOf, Call, Open, On}
use Rattle.machine.specs.Call.{Save, Restore}
use Rattle.machine.specs.Step.{swept, perform, carry_out, step_if, step}
use Rattle.machine.specs.Demand3.{carried_out, Swept, is_sweep, sweeping, afresh, keys_in, sweeps_of, Unbroken}
use Rattle.machine.proofs.Tests.{test, never}
use Rattle.machine.proofs.FairLists.{Asc, Below}
use Rattle.machine.proofs.Fairness.{Batch, batches, self, end, helds}

-- ---- the known cursor, and what a sweep hands out

abbrev next : State → List Key
next s = handed s.known_cursor (keys s.table)

-- "The cursor becomes the last of them"
cursor-handed : (ks : List Key) (s : State) → (swept ks s).state.known_cursor ≡ last_of ks
cursor-handed ks s = refl

-- "handed out: in its reply"
reply-handed : (ks : List Key) (s : State) → keys_in (swept ks s).reply ≡ ks
reply-handed ks s = refl

-- "no other call of this document but opening moves it"; a sweep replies the next keys
record Moved (a : Ask) (s : State) : Type 0 where
  cursor : (perform a s).state.known_cursor ≡ (if is_sweep a then last_of (next s) else s.known_cursor)
  out : (if is_sweep a then keys_in (perform a s).reply else next s) ≡ next s

moved : (a : Ask) (s : State) → Moved a s
unfolding perform plan
moved (Announce c) s = record { cursor = refl; out = refl }
moved (RequestParent c) s = record { cursor = refl; out = refl }
moved (Failed k n now) s = record { cursor = refl; out = refl }
moved (Unclaim k n) s = record { cursor = refl; out = refl }
moved (SolicitPackageInfo n h hs now) s = record { cursor = refl; out = refl }
moved (ClaimPackage n h c ws now) s = record { cursor = refl; out = refl }
moved (BeginPackageResolution n h c ws now) s = record { cursor = refl; out = refl }
moved (AnnounceParents n hs now b) s = record { cursor = refl; out = refl }
moved (FailedPackageClaims n cs now b) s = record { cursor = refl; out = refl }
moved (Plan now ks b) s = record { cursor = refl; out = refl }
moved (Claim now l b) s = record { cursor = refl; out = refl }
moved (Sweep b) s = record { cursor = cursor-handed (next s) s; out = reply-handed (next s) s }
moved (Disconnected n now b) s = record { cursor = refl; out = refl }
moved (ReleasePackage n h now b) s = record { cursor = refl; out = refl }
moved (TeardownPackageClaims now) s = record { cursor = refl; out = refl }
moved (Forget k) s = record { cursor = refl; out = refl }
moved (ForgetKnown k now) s = record { cursor = refl; out = refl }
moved (FailedWithParents k n now b) s = record { cursor = refl; out = refl }
moved (FailedPackageInfo k n now) s = record { cursor = refl; out = refl }
moved (PackageInfoOwner k now) s = record { cursor = refl; out = refl }
moved (AnnounceTransactions n now p w os) s = record { cursor = refl; out = refl }
moved (TransactionResponseCompleted n x w now) s = record { cursor = refl; out = refl }
moved (TransactionNotFound n l now b) s = record { cursor = refl; out = refl }
moved (PollGate now) s = record { cursor = refl; out = refl }
moved (Arrange ws l b) s = record { cursor = refl; out = refl }
moved Sum s = record { cursor = refl; out = refl }
moved (OwnersOf hs b) s = record { cursor = refl; out = refl }
moved (Save b) s = record { cursor = refl; out = refl }

pub cursor_stays : (a : Ask) (s : State) → is_sweep a ≡ false → (perform a s).state.known_cursor ≡ s.known_cursor
cursor_stays a s e = (moved a s).cursor ∙ rw e

pub cursor-swept : (a : Ask) (s : State) → is_sweep a ≡ true → (perform a s).state.known_cursor ≡ last_of (next s)
cursor-swept a s e = (moved a s).cursor ∙ rw e

pub reply-swept : (a : Ask) (s : State) → is_sweep a ≡ true → keys_in (perform a s).reply ≡ next s
reply-swept a s e = rw e at (moved a s).out

cursor-refused : (n : ℕ) (c : Call) (s : State) → carried_out n c s ≡ false → (step n c s).state.known_cursor ≡ s.known_cursor
unfolding step_if
cursor-refused n c s e = rw e

cursor_other : (n : ℕ) (c : Call) (s : State) → (afresh c ≡ true → carried_out n c s ≡ false) → sweeping c ≡ false → (step n c s).state.known_cursor ≡ s.known_cursor
unfolding step_if carry_out
cursor_other n (Open L Q) s o e = cursor-refused n (Open L Q) s (o refl)
cursor_other n (Restore x) s o e = cursor-refused n (Restore x) s (o refl)
cursor_other n (On a) s o e = elim (test (carried_out n (On a) s)) [ inl d ↦ rw d (cursor_stays a s e) | inr d ↦ rw d ]

cursor_next : (n : ℕ) (c : Call) (s : State) → sweeping c ≡ true → carried_out n c s ≡ true → (step n c s).state.known_cursor ≡ last_of (next s)
unfolding step_if carry_out
cursor_next n (Open L Q) s e d = never e
cursor_next n (Restore x) s e d = never e
cursor_next n (On a) s e d = rw d (cursor-swept a s e)

reply_next : (n : ℕ) (c : Call) (s : State) → sweeping c ≡ true → carried_out n c s ≡ true → keys_in (step n c s).reply ≡ next s
unfolding step_if carry_out
reply_next n (Open L Q) s e d = never e
reply_next n (Restore x) s e d = never e
reply_next n (On a) s e d = rw d (reply-swept a s e)

-- ---- the sweeps of a list are successive batches

abbrev pub batch_of : Swept → Batch
batch_of w = record { size = max_known_checks; held = w.held }

abbrev pub outs : List Swept → List (List Key)
outs ws = map (λ w. w.out) ws

pub held_batches : (ws : List Swept) → helds (map batch_of ws) ≡ map (λ w. w.held) ws
held_batches [] = refl
held_batches (w ∷ ws) = rw (held_batches ws)

pub successive : (n : ℕ) (cs : List Call) (s : State) → Unbroken n cs s → outs (sweeps_of n cs s) ≡ batches s.known_cursor (map batch_of (sweeps_of n cs s))
unfolding sweeps_of batches handed
successive n [] s o = refl
successive n (c ∷ cs) s o =
    let rest = successive n cs (step n c s).state o.1 in
    elim (test (sweeping c)) [
      | inl e ↦ rw e (elim (test (carried_out n c s)) [
        | inl d ↦ rw d (rw (reply_next n c s e d) (ap (λ (l : List (List Key)). next s ∷ l) (rw (cursor_next n c s e d) at rest)))
        | inr d ↦ rw d (rw (cursor-refused n c s d) at rest)
      ])
      | inr e ↦ rw e (rw (cursor_other n c s o.0 e) at rest)
    ]

-- ---- what is held at a sweep is in order

pub ascending : (lo : ℕ) (t : Table) → Ordered lo t → Asc self lo (keys t)
unfolding keys
ascending lo [] o = tt
ascending lo (r ∷ t) o = (o.0, ascending (suc (place r.key)) t o.2)

base-le : (k : Kind) → base k ≤ top
base-le Txid = omega arith
base-le Wtxid = omega arith

pub inside : (lo : ℕ) (t : Table) → Ordered lo t → Below self end (keys t)
unfolding keys
inside lo [] o = tt
inside lo (r ∷ t) o = (omega (arith, base-le r.key.kind, o.1), inside (suc (place r.key)) t o.2)
