-- What the contracts of announcing at a key say.
use Rattle.std.specs.Prelude.{ℕ, ◌<◌, ◌≡◌, Bool, true, false, List, leb, Option, Some, None}
use Rattle.ident.specs.Number.{top, Key}
use Rattle.regions.specs.declared.Row.{Row}
use Rattle.machine.specs.Limits.{Limits}
use Rattle.machine.specs.State.{Candidate, State, Table, limits_of, refused, done, owner_is}
use Rattle.machine.specs.Table.{at, has, held, held_at, is_candidate}
use Rattle.machine.specs.Sound.{Sound}
use Rattle.machine.specs.Announce.{push, cut, announce_at}
use Rattle.store.specs.Gather.{key_at}
use Rattle.store.specs.Image.{Writes}
use Rattle.announcing.specs.declared.keyed.Verdict.{Verdict}
use Rattle.announcing.specs.declared.keyed.Verdict.TheVariants.{Refused, Enters, Replaces}

-- whether the hash h has as many candidates as it may, in the state that the bytes write
abbrev pub Crowded : List ℕ → ℕ → Bool → Type 0
Crowded b h r = (st : State) → Sound st → Writes b st → r ≡ leb (limits_of st).alternates (held_at h st.table)

-- the candidate of a row can be taken out: it is there, and does not own its request
pub record Goes (r : Row) (t : Table) : Type 0 where
  pub small : (key_at r).hash < top
  pub held : has r.conn (at (key_at r) t).candidates ≡ true
  pub free : owner_is r.conn (at (key_at r) t).owner ≡ false

-- a preferred announcement has its place only if somebody gives way to it
abbrev pub in_place_of : Option Row → Verdict
in_place_of None = Refused
in_place_of (Some r) = Replaces r

-- it comes in where there is room
pub record Entering (m : Limits) (k : Key) (c : Candidate) (t : Table) : Type 0 where
  pub pushes : announce_at m k c t ≡ done (push k c t)
  pub new : is_candidate c.connection k.hash t ≡ false
  pub room : held t < m.announcements

-- it comes in, and the candidate of the row r goes
pub record Replacing (m : Limits) (k : Key) (c : Candidate) (t : Table) (r : Row) : Type 0 where
  pub evicts : announce_at m k c t ≡ done (push k c (cut (key_at r) r.conn t))
  pub new : is_candidate c.connection k.hash t ≡ false
  pub goes : Goes r t

-- what a verdict says of the machine's answer, and of what is done to the table
abbrev pub Decided : Limits → Key → Candidate → Table → Verdict → Type 0
Decided m k c t Refused = announce_at m k c t ≡ refused t
Decided m k c t Enters = Entering m k c t
Decided m k c t (Replaces r) = Replacing m k c t r
