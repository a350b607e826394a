-- The calls that the code can make: arguments of its types, and so of their widths.
use Rattle.std.specs.Prelude.{ℕ, ◌<◌, Bool, List}
use Rattle.std.proofs.Math.Option.{none, some}
use Rattle.ident.specs.declared.Key.{Key}
use Rattle.ident.specs.Number.{top}
use Rattle.ident.specs.Words.{key_num}
use Rattle.words.specs.Words.{words}
use Rattle.machine.specs.Limits.{word}
use Rattle.machine.specs.Call.{Buffer, Call, Open, Restore, On, Sum, Announce, RequestParent, AnnounceParents, Failed, FailedWithParents, ReleasePackage}
use Rattle.machine.specs.Call.{Claim, Disconnected, Unclaim, Forget, ForgetKnown, FailedPackageInfo, PackageInfoOwner, AnnounceTransactions}
use Rattle.machine.specs.Call.{TransactionResponseCompleted, Sweep, PollGate, SolicitPackageInfo, ClaimPackage, BeginPackageResolution}
use Rattle.machine.specs.Call.{FailedPackageClaims, TeardownPackageClaims, TransactionNotFound, Plan, Arrange, OwnersOf, Save}
use Rattle.store.specs.Image.{Bytes}
use Rattle.lent_lists.specs.Lists.{hashes_in}
use Rattle.lent_lists.specs.Items.{items_in, offers_in}
use Rattle.claiming.specs.Claiming.{entries_in}
use Rattle.selecting.specs.Phasing.{given_keys}
use Rattle.requests.specs.declared.Candidate.{Candidate}
use Rattle.requests.specs.Changes.{candidate_of}
use Rattle.outcome.proofs.Widths.{IsCandidate, IsKey}

-- ---- the calls that the code has, with arguments of its types

pub data Made : Call → Type 0 where
  opens : (l q : ℕ) → l < word → q < word → Made (Open l q)
  sums : Made (On Sum)
  saves : (u : Buffer) → Made (On (Save u))
  restores : (x : List ℕ) → Made (Restore x)
  announces : (c : Candidate) → IsCandidate c → Made (On (Announce (candidate_of c)))
  requests-parent : (c : Candidate) → IsCandidate c → Made (On (RequestParent (candidate_of c)))
  announces-parents : (n clock : ℕ) (b : List ℕ) (u : Buffer) → n < word → clock < word → Bytes b → Made (On (AnnounceParents n (hashes_in b) clock u))
  fails : (k : Key) (n clock : ℕ) → IsKey k → n < word → clock < word → Made (On (Failed (key_num k) n clock))
  fails_with_parents : (k : Key) (n clock : ℕ) (u : Buffer) → IsKey k → n < word → clock < word → Made (On (FailedWithParents (key_num k) n clock u))
  releases-package : (n h clock : ℕ) (u : Buffer) → n < word → h < top → clock < word → Made (On (ReleasePackage n h clock u))
  claims : (clock : ℕ) (b : List ℕ) (u : Buffer) → clock < word → Bytes b → Made (On (Claim clock (entries_in b) u))
  departs : (n clock : ℕ) (u : Buffer) → n < word → clock < word → Made (On (Disconnected n clock u))
  unclaims : (k : Key) (n : ℕ) → IsKey k → n < word → Made (On (Unclaim (key_num k) n))
  forgets : (k : Key) → IsKey k → Made (On (Forget (key_num k)))
  forgets_known : (k : Key) (clock : ℕ) → IsKey k → clock < word → Made (On (ForgetKnown (key_num k) clock))
  fails-info : (k : Key) (n clock : ℕ) → IsKey k → n < word → clock < word → Made (On (FailedPackageInfo (key_num k) n clock))
  reads-owner : (k : Key) (clock : ℕ) → IsKey k → clock < word → Made (On (PackageInfoOwner (key_num k) clock))
  announces-transactions : (n clock : ℕ) (preferred source : Bool) (b d : List ℕ) → n < word → clock < word → Bytes b → Bytes d
      → Made (On (AnnounceTransactions n clock preferred source (offers_in b d)))
  completes : (n x w clock : ℕ) → n < word → x < top → w < top → clock < word → Made (On (TransactionResponseCompleted n x w clock))
  sweeps : (u : Buffer) → Made (On (Sweep u))
  gates : (clock : ℕ) → clock < word → Made (On (PollGate clock))
  solicits : (n h clock : ℕ) (b : List ℕ) → n < word → h < top → clock < word → Bytes b → Made (On (SolicitPackageInfo n h (hashes_in b) clock))
  claims-package : (n h c clock : ℕ) (b : List ℕ) → n < word → h < top → c < top → clock < word → Bytes b → Made (On (ClaimPackage n h c (hashes_in b) clock))
  begins-resolution : (n h c clock : ℕ) (b : List ℕ) → n < word → h < top → c < top → clock < word → Bytes b → Made (On (BeginPackageResolution n h c (hashes_in b) clock))
  fails-claims : (n clock : ℕ) (b : List ℕ) (u : Buffer) → n < word → clock < word → Bytes b → Made (On (FailedPackageClaims n (hashes_in b) clock u))
  tears_down : (clock : ℕ) → clock < word → Made (On (TeardownPackageClaims clock))
  misses : (n clock : ℕ) (b : List ℕ) (u : Buffer) → n < word → clock < word → Bytes b → Made (On (TransactionNotFound n (items_in b) clock u))
  plans : (clock : ℕ) (u : Buffer) → clock < word → Made (On (Plan clock none u))
  plans_given : (clock : ℕ) (b : List ℕ) (u : Buffer) → clock < word → Bytes b → Made (On (Plan clock (some (given_keys b)) u))
  arranges : (v b : List ℕ) (u : Buffer) → Bytes v → Bytes b → Made (On (Arrange (words v) (entries_in b) u))
  reads-owners : (b : List ℕ) (u : Buffer) → Bytes b → Made (On (OwnersOf (hashes_in b) u))
