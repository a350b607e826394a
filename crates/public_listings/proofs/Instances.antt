-- Saving as an instance of crates/outcome/proofs/Carried.
use mathlib.Core.Path.{refl}
use Rattle.machine.specs.Listing.{listing}
use Rattle.machine.specs.Call.{Buffer, Save, named, takes_place}
use Rattle.machine.specs.Step.{perform}
use Rattle.outcome.proofs.Carried.{Texts}

pub saves : (u : Buffer) → Texts (Save u) u (λ s. listing s)
unfolding named takes_place perform
saves u = record { names = record { are = λ s. refl; placeless = λ s. refl }; performs = λ s. refl }
