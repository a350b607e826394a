-- What a reply of 0 leaves (document 01, "Refusals and replies").
use Rattle.std.specs.Prelude.{ℕ, ◌≡◌}
use Rattle.machine.specs.State.{State}
use Rattle.machine.specs.Call.{Call}
use Rattle.machine.specs.Step.{Number, step}
use Rattle.machine.specs.Sound.{Sound}

-- "A reply of 0 is the Rust's `false`; the state is then unchanged unless a rule below names a change." No rule names one: an announcement that
-- evicts replies 1, and a solicitation that replies 0 has announced nothing. (package_info_owner's 0 and teardown_package_claims' 0 are
-- no `false`, but they change nothing either.)
abbrev pub KeptAt0 : Type 0
KeptAt0 = (n : ℕ) (c : Call) (s : State) → Sound s → (step n c s).reply ≡ Number 0 → (step n c s).state ≡ s
