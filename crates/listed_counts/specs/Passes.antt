-- What the contracts of the passes over a listing's lines say. A pass goes through the candidates' connections, or through the owners.
use Rattle.std.specs.Prelude.{ℕ, suc, ◌+◌, ◌*◌, ◌≤◌, ◌≡◌, Bool, true, false, List, length}
use Rattle.std.proofs.Math.Option.{Option, none, some}
use Rattle.words.specs.Words.{Decides}
use Rattle.machine.specs.Limits.{max_announcements, max_peer_announcements, max_in_flight}
use Rattle.machine.specs.State.{Table}
use Rattle.machine.specs.Table.{held, held_by, owned_by}
use Rattle.machine.specs.Listing.{Line, Rest}
use Rattle.machine.specs.SoundTest.{every, is_filled}
use Rattle.heavy.specs.Counters.{names_with, counts_with, names_of, counted_with, counts_of, Few}
use Rattle.heavy.specs.Streams.{line_connections, line_owners}
use Rattle.listed_form.specs.Given.{Body, requests_only}

-- ---- the numbers of a pass

-- the owners, or the candidates' connections
unfoldable pub stream : Bool → List Line → List ℕ
stream true ls = line_owners ls
stream false ls = line_connections ls

-- ---- counters with one number more, if there is one

abbrev pub names_added : Option ℕ → List ℕ → List ℕ → List ℕ
names_added none ns ks = ns
names_added (some x) ns ks = names_with x ns ks

abbrev pub counts_added : Option ℕ → List ℕ → List ℕ → List ℕ
counts_added none ns ks = ks
counts_added (some x) ns ks = counts_with x ns ks

abbrev pub counted_added : Option ℕ → List ℕ → List ℕ → List ℕ
counted_added none ns ks = ks
counted_added (some x) ns ks = counted_with x ns ks

pub record Notes (n : Option ℕ) (ns ks ns' ks' : List ℕ) : Type 0 where
  pub names : ns' ≡ names_added n ns ks
  pub counts : ks' ≡ counts_added n ns ks

pub record Counts (n : Option ℕ) (ns ks ks' : List ℕ) : Type 0 where
  pub counts : ks' ≡ counted_added n ns ks

-- ---- a pass over the lines from an index on, if these list requests

pub record NotesAll (b : List ℕ) (from : ℕ) (owners : Bool) (ns ks ns' : List ℕ) : Type 0 where
  pub is : (q : Rest) (y : Body b from q) → ns' ≡ names_of (stream owners y.lines) ns ks

pub record CountsAll (b : List ℕ) (from : ℕ) (owners : Bool) (ns ks ks' : List ℕ) : Type 0 where
  pub is : (q : Rest) (y : Body b from q) → ks' ≡ counts_of (stream owners y.lines) ns ks

-- both, with k counters
pub record Verdict (b : List ℕ) (from : ℕ) (owners : Bool) (most k : ℕ) (r : Bool) : Type 0 where
  pub is : (q : Rest) (y : Body b from q) → length (stream owners y.lines) ≤ suc k * most + k → Decides r (Few most (stream owners y.lines))

-- ---- what they tell of the table that the lines list

-- "no connection .. has more than 5,000 announcements", "no connection owns more than 100 requests"
pub record Light (t : Table) : Type 0 where
  pub held : (n : ℕ) → held_by n t ≤ max_peer_announcements
  pub owned : (n : ℕ) → owned_by n t ≤ max_in_flight

-- of at most 100,000 announcements, at least one a request
pub record LightRead (b : List ℕ) (from : ℕ) (r : Bool) : Type 0 where
  pub is : (t : Table) → Body b from (requests_only t) → held t ≤ max_announcements → every is_filled t ≡ true → Decides r (Light t)
