-- What a line asks for (docs/EVENTS.md, "Lines and fields").
use Rattle.std.specs.Prelude.{ℕ, List, []}
use Rattle.std.proofs.Math.Option.{Option, some}
use Rattle.machine.specs.Call.{Call}
use Rattle.machine.specs.Fields.{number_of, taking, ending, elements_then}

-- a call, or one about a list that the program keeps
pub data Line : Type 0 where
  Asks : (c : Call) → Line
  Take : (now : ℕ) → Line
  Send : (witnesses : List ℕ) → Line
  Part : (connection : ℕ) → Line

-- ---- lists

-- what stands in one field or in several: what k makes of its value and of the fields behind
abbrev pub Reader : Type 0 → Type 0
Reader A = (A → List (List ℕ) → Option Line) → List (List ℕ) → Option Line

-- "list: its length as a number, then so many elements": the whole list, and nothing behind it
unfoldable pub list_then : {A : Type 0} → Reader A → (List A → Line) → List (List ℕ) → Option Line
list_then read line fs = taking number_of (λ count. elements_then read count [] (λ xs. ending (some (line xs)))) fs
