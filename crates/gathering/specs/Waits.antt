-- Candidates that wait beside the table, to come in together.
use Rattle.std.specs.Prelude.{ℕ, ◌+◌, ◌<◌, ◌≡◌, Bool, false, ◌||◌, List, [], ◌∷◌, ⊤, leb, eqb, length}
use Rattle.ident.specs.Number.{top, Key}
use Rattle.machine.specs.Limits.{Limits, max_peer_announcements}
use Rattle.machine.specs.State.{Candidate, Entry, Table, owner_is}
use Rattle.machine.specs.Table.{at, held, held_by, held_at, is_candidate}
use Rattle.machine.specs.Announce.{push}
use Rattle.machine.specs.Typed.{Each}

-- they come in, one after the other
unfoldable pub pushes : List Entry → Table → Table
pushes [] t = t
pushes (a ∷ l) t = pushes l (push a.key a.candidate t)

-- one under a key of 256 bits
pub record Small (a : Entry) : Type 0 where
  pub small : a.key.hash < top

-- one of the connection n
pub record Of (n : ℕ) (a : Entry) : Type 0 where
  pub mine : a.candidate.connection ≡ n

-- none of them owns its request
abbrev pub Idle : Table → List Entry → Type 0
Idle t es = Each (λ (a : Entry). owner_is a.candidate.connection (at a.key t).owner ≡ false) es

-- one of them is at this hash
unfoldable pub waits : ℕ → List Entry → Bool
waits h [] = false
waits h (a ∷ l) = eqb a.key.hash h || waits h l

-- no two of them are at one hash
abbrev pub Single : List Entry → Type 0
Single [] = ⊤
Single (a ∷ l) = (waits a.key.hash l ≡ false) × Single l

-- nothing bars c, and nothing has to give way for it, whoever waits: all that wait are counted as its connection's own
pub record Admits (m : Limits) (t : Table) (es : List Entry) (k : Key) (c : Candidate) : Type 0 where
  pub new : is_candidate c.connection k.hash t ≡ false
  pub apart : waits k.hash es ≡ false
  pub few : held_by c.connection t + length es < max_peer_announcements
  pub spare : held_at k.hash t < m.alternates
  pub room : held t + length es < m.announcements

-- ---- the tests of announce where all that wait are of the connection n

-- the connection has announced the hash, under either kind, or has as many announcements as it may
abbrev pub barred_beside : List Entry → Key → ℕ → Table → Bool
barred_beside es k n t = (is_candidate n k.hash t || waits k.hash es) || leb max_peer_announcements (held_by n t + length es)

-- the hash, or the tracker, has as many candidates as it may
abbrev pub full_beside : Limits → List Entry → Key → Table → Bool
full_beside m es k t = leb m.alternates (held_at k.hash t) || leb m.announcements (held t + length es)
