-- What an answer says that lists entries, in document 01's values.
use Rattle.std.specs.Prelude.{ℕ, Result, Ok, Err}
use Rattle.machine.specs.Call.{Buffer}
use Rattle.machine.specs.Later.{time_of}
use Rattle.machine.specs.Step.{Reply, Refused, Entries, Chosen}
use Rattle.choosing.specs.Choosing.{option_of}
use Rattle.claiming.specs.Claiming.{entries_from}
use Rattle.outcome.specs.declared.refusal.Refusal.{Refusal}
use Rattle.outcome.specs.Refusals.{number_of}
use Rattle.planning.specs.declared.plan.Planned.{Planned}
use Rattle.public_plans.specs.declared.Selection.{Selection}

-- n entries stand in the answer buffer
abbrev pub entries_listed : ℕ → Buffer → Reply
entries_listed n u = Entries (entries_from u 0 n)

abbrev pub entries_of : Result ℕ Refusal → Buffer → Reply
entries_of (Err r) u = Refused (number_of r)
entries_of (Ok n) u = entries_listed n u

-- a plan: k keys considered, n entries in the answer buffer, and when to look again, 0 standing for no time
abbrev pub chosen_listed : ℕ → ℕ → ℕ → Buffer → Reply
chosen_listed k n x u = Chosen k (entries_from u 0 n) (time_of x)

-- a plan in document 01's terms
abbrev pub selection_of : Planned → Selection
selection_of p = record { considered = p.considered; chosen = p.count; next = p.next }

abbrev pub planned_of : Result Selection Refusal → Buffer → Reply
planned_of (Err r) u = Refused (number_of r)
planned_of (Ok p) u = Chosen p.considered (entries_from u 0 p.chosen) (option_of p.next)
