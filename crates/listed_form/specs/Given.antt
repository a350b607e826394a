-- What the contracts of pass 1 say.
use Rattle.std.specs.Prelude.{ℕ, ◌≤◌, ◌≡◌, List, [], length, drop, Option, Some, None}
use Rattle.std.proofs.Math.Option.{none, some}
use Rattle.ident.specs.Number.{Key}
use Rattle.regions.specs.declared.Key.{Key as RowKey}
use Rattle.regions.specs.Rows.{quad_number}
use Rattle.machine.specs.State.{Table, State, on_table}
use Rattle.machine.specs.Listing.{Line, Rest, rest_of, read_listing}
use Rattle.listed_lines.specs.declared.line.Line as line-line
use Rattle.listed_lines.specs.declared.line.Head as line-head
use Rattle.listed_lines.specs.Given.{head_state, line_in, lines_of_text}
use Rattle.listed_form.specs.declared.Listing.{Listing}
use Rattle.listed_form.specs.Placed.{Met, Bad, Start, After, meets}

-- a key as rows have it
abbrev pub key_in : RowKey → Key
key_in k = record { kind = k.kind; hash = quad_number k.hash }

-- what the scan has met, in the code's words: the key of the last request, if there was one
abbrev pub met_of : Option RowKey → Met
met_of None = Start
met_of (Some k) = After (key_in k)

-- behind one line more there was one, or the line may not stand there
abbrev pub met_if : Option RowKey → Met
met_if None = Bad
met_if (Some k) = After (key_in k)

-- one line more, whatever lists it has
pub record Meets (m : Option RowKey) (l : line-line.Line) (r : Option RowKey) : Type 0 where
  pub is : (ws ps : List ℕ) → met_if r ≡ meets (met_of m) (line_in ws ps l)

-- the lines of the text from index e on list q: candidates of a request before them, and requests
pub record Body (b : List ℕ) (e : ℕ) (q : Rest) : Type 0 where
  pub inside : e ≤ length b
  pub lines : List Line
  pub are : lines_of_text (drop e b) ≡ some lines
  pub list : rest_of lines ≡ some q

abbrev pub requests_only : Table → Rest
requests_only t = record { candidates = []; table = t }

-- the text lists a state; its first line is h, its other lines begin at index e
pub record Reads (b : List ℕ) (h : line-head.Head) (e : ℕ) : Type 0 where
  pub state : State
  pub read : read_listing b ≡ some state
  pub head : state ≡ on_table state.table (head_state h)
  pub body : Body b e (requests_only state.table)

-- the first line, and the lines behind it; none of a text that lists no state
abbrev pub FormAs : List ℕ → Option Listing → Type 0
FormAs b None = read_listing b ≡ none
FormAs b (Some l) = (l.lines.text.now ≡ b) × Reads b l.head l.lines.at

pub record FormRead (b : List ℕ) (r : Option Listing) : Type 0 where
  pub is : FormAs b r
