-- The calls of this crate as instances of crates/outcome/proofs/Carried and Replies.
use Prim.Native.Nat.{ℕ, ◌+◌, ◌*◌}
use mathlib.Core.Path.{refl}
use mathlib.Core.List.{List, [], ◌∷◌}
use Rattle.ident.specs.Number.{Key}
use Rattle.machine.specs.Limits.{max_parents}
use Rattle.machine.specs.State.{done, on_table}
use Rattle.machine.specs.Leave.{forget_known}
use Rattle.machine.specs.Package.{claim_package, begin_resolution, failed_package_info, package_info_owner, release_package, failed_package_claims, teardown}
use Rattle.machine.specs.Call.{Buffer, ClaimPackage, BeginPackageResolution, ReleasePackage, FailedPackageInfo}
use Rattle.machine.specs.Call.{PackageInfoOwner, ForgetKnown, FailedPackageClaims, TeardownPackageClaims, named, takes_place}
use Rattle.machine.specs.Step.{perform}
use Rattle.outcome.proofs.Carried.{YesNo, Lists}
use Rattle.outcome.proofs.Replies.{Reads, Counts}

pub claims-package : (n h c : ℕ) (ws : List ℕ) (clock : ℕ) → YesNo (ClaimPackage n h c ws clock) (n ∷ []) (clock ∷ []) (λ m t. claim_package n h c ws clock t)
unfolding named takes_place perform
claims-package n h c ws clock = record { names = record { are = λ s. refl; placeless = λ s. refl }; performs = λ s. refl }

pub begins-resolution : (n h c : ℕ) (ws : List ℕ) (clock : ℕ) → YesNo (BeginPackageResolution n h c ws clock) (n ∷ []) (clock ∷ []) (λ m t. begin_resolution n h c ws clock t)
unfolding named takes_place perform
begins-resolution n h c ws clock = record { names = record { are = λ s. refl; placeless = λ s. refl }; performs = λ s. refl }

pub releases-package : (n h clock : ℕ) (u : Buffer) → Lists (ReleasePackage n h clock u) (n ∷ []) (clock ∷ []) 0 u (λ s. max_parents + 1) (λ m t. release_package m n h clock t)
unfolding named takes_place perform
releases-package n h clock u = record { names = record { are = λ s. refl; placeless = λ s. refl }; performs = λ s. refl }

pub fails-info : (k : Key) (n clock : ℕ) → YesNo (FailedPackageInfo k n clock) (n ∷ []) (clock ∷ []) (λ m t. failed_package_info k n clock t)
unfolding named takes_place perform
fails-info k n clock = record { names = record { are = λ s. refl; placeless = λ s. refl }; performs = λ s. refl }

pub reads-owner : (k : Key) (clock : ℕ) → Reads (PackageInfoOwner k clock) [] (clock ∷ []) (λ t. package_info_owner k clock t)
unfolding named takes_place perform
reads-owner k clock = record { names = record { are = λ s. refl; placeless = λ s. refl }; performs = λ s. refl }

pub forgets_known : (k : Key) (clock : ℕ) → YesNo (ForgetKnown k clock) [] (clock ∷ []) (λ m t. done (forget_known m k clock t))
unfolding named takes_place perform
forgets_known k clock = record { names = record { are = λ s. refl; placeless = λ s. refl }; performs = λ s. refl }

pub fails-claims : (n : ℕ) (cs : List ℕ) (clock : ℕ) (u : Buffer)
    → Lists (FailedPackageClaims n cs clock u) (n ∷ []) (clock ∷ []) 0 u (λ s. (max_parents + 1) * s.places) (λ m t. failed_package_claims m n cs clock t)
unfolding named takes_place perform
fails-claims n cs clock u = record { names = record { are = λ s. refl; placeless = λ s. refl }; performs = λ s. refl }

pub tears_down : (clock : ℕ)
    → Counts (TeardownPackageClaims clock) [] (clock ∷ []) (λ s. (teardown clock s.table).cleared) (λ s. on_table (teardown clock s.table).table s)
unfolding named takes_place perform
tears_down clock = record { names = record { are = λ s. refl; placeless = λ s. refl }; performs = λ s. refl }
