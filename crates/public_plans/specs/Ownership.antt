-- What the answer of owners_of says, in the values of document 02, request e.
use Rattle.std.specs.Prelude.{ℕ, List, Result, Ok, Err}
use Rattle.machine.specs.Call.{Buffer}
use Rattle.machine.specs.Step.{Reply, Refused, Owned}
use Rattle.owners.specs.Back.{holdings_in}
use Rattle.outcome.specs.declared.refusal.Refusal.{Refusal}
use Rattle.outcome.specs.Refusals.{number_of}

-- n keys were passed, and the owners of the hashes stand in the answer buffer
abbrev pub owners_listed : List ℕ → ℕ → Buffer → Reply
owners_listed hs n u = Owned n (holdings_in hs u)

abbrev pub owners_of : List ℕ → Result ℕ Refusal → Buffer → Reply
owners_of hs (Err r) u = Refused (number_of r)
owners_of hs (Ok n) u = owners_listed hs n u
