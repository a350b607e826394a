-- The arguments of a call are numbers of their widths: connections, times and priorities of 64 bits, hashes of 256. Code is
-- handed nothing else, so that this asks nothing of a caller.
use Rattle.std.specs.Prelude.{ℕ, ◌<◌, List, []}
use Rattle.std.proofs.Math.Option.{Option, none, some}
use Rattle.ident.specs.Number.{top, Key, Item}
use Rattle.machine.specs.Limits.{word}
use Rattle.machine.specs.State.{Candidate, Entry}
pub use Rattle.machine.specs.State.{Each, KeyTyped}
use Rattle.machine.specs.Sound.{Hashes}
use Rattle.machine.specs.Wrapper.{Offer}
use Rattle.machine.specs.Call.{Ask, Announce, RequestParent, Failed, Unclaim, SolicitPackageInfo, ClaimPackage, BeginPackageResolution, AnnounceParents}
use Rattle.machine.specs.Call.{FailedPackageClaims, Plan, Claim, Sweep, Disconnected, ReleasePackage, TeardownPackageClaims, Forget, ForgetKnown, FailedWithParents}
use Rattle.machine.specs.Call.{FailedPackageInfo, PackageInfoOwner, AnnounceTransactions, TransactionResponseCompleted, TransactionNotFound, PollGate, Arrange, Sum, OwnersOf, Call, Open, On}
use Rattle.machine.specs.Call.{Save, Restore}

pub record CandidateTyped (c : Candidate) : Type 0 where
  pub connection : c.connection < word
  pub hash : c.item.hash < top
  pub ready : c.ready < word
  pub priority : c.priority < word

pub record EntryTyped (a : Entry) : Type 0 where
  pub hash : a.key.hash < top
  pub candidate : CandidateTyped a.candidate

pub record OfferTyped (o : Offer) : Type 0 where
  pub hash : o.item.hash < top
  pub priority : o.priority < word

abbrev pub KeysTyped : Option (List Key) → Type 0
KeysTyped none = Unit {0}
KeysTyped (some ks) = Each KeyTyped ks

abbrev pub AskTyped : Ask → Type 0
AskTyped (Announce c) = CandidateTyped c
AskTyped (RequestParent c) = CandidateTyped c
AskTyped (Failed k n now) = KeyTyped k × (n < word) × (now < word)
AskTyped (Unclaim k n) = KeyTyped k × (n < word)
AskTyped (SolicitPackageInfo n h hs now) = (n < word) × (h < top) × Hashes hs × (now < word)
AskTyped (ClaimPackage n h c ws now) = (n < word) × (h < top) × (c < top) × Hashes ws × (now < word)
AskTyped (BeginPackageResolution n h c ws now) = (n < word) × (h < top) × (c < top) × Hashes ws × (now < word)
AskTyped (AnnounceParents n hs now b) = (n < word) × Hashes hs × (now < word)
AskTyped (FailedPackageClaims n cs now b) = (n < word) × Hashes cs × (now < word)
AskTyped (Plan now ks b) = (now < word) × KeysTyped ks
AskTyped (Claim now l b) = (now < word) × Each EntryTyped l
AskTyped (Sweep b) = Unit {0}
AskTyped (Disconnected n now b) = (n < word) × (now < word)
AskTyped (ReleasePackage n h now b) = (n < word) × (h < top) × (now < word)
AskTyped (TeardownPackageClaims now) = now < word
AskTyped (Forget k) = KeyTyped k
AskTyped (ForgetKnown k now) = KeyTyped k × (now < word)
AskTyped (FailedWithParents k n now b) = KeyTyped k × (n < word) × (now < word)
AskTyped (FailedPackageInfo k n now) = KeyTyped k × (n < word) × (now < word)
AskTyped (PackageInfoOwner k now) = KeyTyped k × (now < word)
AskTyped (AnnounceTransactions n now p w os) = (n < word) × (now < word) × Each OfferTyped os
AskTyped (TransactionResponseCompleted n x w now) = (n < word) × (x < top) × (w < top) × (now < word)
AskTyped (TransactionNotFound n l now b) = (n < word) × Each (λ (i : Item). i.hash < top) l × (now < word)
AskTyped (PollGate now) = now < word
AskTyped (Arrange ws l b) = Each (λ (n : ℕ). n < word) ws × Each EntryTyped l
AskTyped Sum = Unit {0}
AskTyped (OwnersOf hs b) = Hashes hs
AskTyped (Save b) = Unit {0}

abbrev pub CallTyped : Call → Type 0
CallTyped (Open L Q) = (L < word) × (Q < word)
CallTyped (Restore x) = Unit {0}
CallTyped (On a) = AskTyped a
