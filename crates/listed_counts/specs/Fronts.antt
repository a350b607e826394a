-- What the contracts of the readers of a line's front say: which number it adds to the connections, which to the owners.
use Rattle.std.specs.Prelude.{ℕ, ◌<◌, ◌≤◌, ◌≡◌, Bool, true, false, List, ◌∷◌, length, drop}
use Rattle.std.specs.Prelude as answer
use Rattle.std.proofs.Math.Option.{Option, none, some}
use Rattle.machine.specs.State.{Owner, Request}
use Rattle.machine.specs.Fields.{fields}
use Rattle.machine.specs.Listing.{Line, HeadLine, RequestLine, CandidateLine, short, line_of}
use Rattle.lines.specs.Values.{number_in}
use Rattle.listed_lines.specs.Given.{lines_of_text}
use Rattle.listed_counts.specs.declared.fronts.Front.{Front}
use Rattle.listed_counts.specs.declared.fronts.Front.TheVariants.{Nobody, Owner as IsOwner, Connection}

-- ---- the number that a line adds

abbrev pub owner_number : Option Owner → Option ℕ
owner_number none = none
owner_number (some o) = some o.connection

abbrev pub line_owner : Line → Option ℕ
line_owner (HeadLine s) = none
line_owner (RequestLine r) = owner_number r.owner
line_owner (CandidateLine c) = none

abbrev pub line_connection : Line → Option ℕ
line_connection (HeadLine s) = none
line_connection (RequestLine r) = none
line_connection (CandidateLine c) = some c.connection

-- to the owners, or to the candidates' connections
abbrev pub added : Bool → Line → Option ℕ
added true l = line_owner l
added false l = line_connection l

-- ---- what a front says of it

abbrev pub owner_for : Front → Option ℕ
owner_for Nobody = none
owner_for (IsOwner n) = some n
owner_for (Connection n) = none

abbrev pub connection_for : Front → Option ℕ
connection_for Nobody = none
connection_for (IsOwner n) = none
connection_for (Connection n) = some n

abbrev pub number_for : Bool → Front → Option ℕ
number_for true f = owner_for f
number_for false f = connection_for f

-- a line that may stand behind the first one
abbrev pub Behind : Line → Type 0
Behind (HeadLine s) = ⊥
Behind (RequestLine r) = Unit {0}
Behind (CandidateLine c) = Unit {0}

-- what a line behind the first one adds, if it is of a form
pub record FrontIn (o : Option Line) (f : Front) : Type 0 where
  pub is : (owners : Bool) (l : Line) → o ≡ some l → Behind l → number_for owners f ≡ added owners l

-- the owner of a request's line
pub record OwnerIn (l : List ℕ) (r : answer.Option ℕ) : Type 0 where
  pub is : (q : Request) → line_of short (fields l) ≡ some (RequestLine q) → number_in r ≡ owner_number q.owner

-- the first of the lines ls, and where the others begin
pub record Fronted (b : List ℕ) (end : ℕ) (f : Front) (ls : List Line) : Type 0 where
  pub first : Line
  pub others : List Line
  pub parts : ls ≡ first ∷ others
  pub are : lines_of_text (drop end b) ≡ some others
  pub adds : FrontIn (some first) f

-- the front of the line at an index, if the lines from there on are all of a form
pub record FrontRead (b : List ℕ) (at : ℕ) (f : Front) (end : ℕ) : Type 0 where
  pub is : (ls : List Line) → lines_of_text (drop at b) ≡ some ls → Fronted b end f ls
  pub on : at < end
  pub inside : end ≤ length b
