-- Demand 1: a call within the limits is carried out, any other is refused by number, and nothing is lost (document 01, "Refusals and replies").
use Rattle.std.specs.Prelude.{ℕ, suc, ◌≤◌, ◌<◌, ◌≡◌, ◌⊎◌, Bool, true, false, List, [], ◌∷◌, eqb, length, if◌then◌else◌}
use Rattle.machine.specs.Limits.{need, max_announcements, max_places, max_parents, max_asked_hashes, latest_clock}
use Rattle.machine.specs.State.{State, limits_of}
use Rattle.machine.specs.Table.{places_held}
use Rattle.machine.specs.Package.{solicit}
use Rattle.machine.specs.Sound.{Sound}
use Rattle.machine.specs.Listing.{listing, StateListed}
use Rattle.machine.specs.Call.{Ask, Role, AsSolicitation, AsSweep, AsOther, role_of, Call, Open, Restore, On, named, refusal}
use Rattle.machine.specs.Step.{Refused, carry_out, answer_bytes, written, buffer_of, Outcome, step_if}

-- one of a list passes
abbrev pub Any : (ℕ → Type 0) → List ℕ → Type 0
Any P [] = ⊥
Any P (n ∷ l) = P n ⊎ Any P l

-- "L not 1 to 100,000, or Q not 1 to 4,096"
abbrev pub WrongSizes : ℕ → ℕ → Type 0
WrongSizes L Q = ((L < 1) ⊎ (max_announcements < L)) ⊎ ((Q < 1) ⊎ (max_places < Q))

-- "a solicitation that would reply 1"
abbrev pub WouldSolicit : Role → State → Type 0
WouldSolicit (AsSolicitation n h hs now) s = (solicit (limits_of s) n h hs now s.table).reply ≡ true
WouldSolicit AsSweep s = ⊥
WouldSolicit AsOther s = ⊥

-- "in strictly ascending order"
abbrev pub Ascending : List ℕ → Type 0
Ascending [] = Unit {0}
Ascending (h ∷ []) = Unit {0}
Ascending (h ∷ (g ∷ hs)) = (h < g) × Ascending (g ∷ hs)

-- "Hashes that are too many or not strictly ascending" (document 02, request e)
abbrev pub WrongHashes : List ℕ → Type 0
WrongHashes hs = (max_asked_hashes < length hs) ⊎ (Ascending hs → ⊥)

-- The table's causes, r their number: of an opening of a store of n bytes,
pub data OpeningCause (n L Q r : ℕ) : Type 0 where
  -- "store shorter than the documented need for L and Q"
  short-store : r ≡ 1 → n < need L Q → OpeningCause n L Q r
  -- "L not 1 to 100,000, or Q not 1 to 4,096"
  wrong-sizes : r ≡ 2 → WrongSizes L Q → OpeningCause n L Q r

-- of the reading of a text x by such a store: whether it is the listing of a state,
abbrev pub Lists : List ℕ → State → Type 0
Lists x t = StateListed t × (listing t ≡ x)

pub data ReadingCause (n : ℕ) (x : List ℕ) (r : ℕ) : Type 0 where
  -- "An unreadable or misplaced line, a parent or wtxid list of wrong length, no line at all or falling keys"
  unreadable : r ≡ 11 → ((t : State) → Lists x t → ⊥) → ReadingCause n x r
  -- "a readable listing of an unsound state"
  unsound-listing : r ≡ 12 → (t : State) → Lists x t → (Sound t → ⊥) → ReadingCause n x r
  -- "a receiving store shorter than the state's need"
  short-receiver : r ≡ 1 → (t : State) → Lists x t → n < need t.limit t.places → ReadingCause n x r

-- and of any other call on a store that writes the sound state s, if `sound` is true.
pub data AskCause (sound : Bool) (s : State) (a : Ask) (r : ℕ) : Type 0 where
  -- "store bytes do not write a sound state"
  unsound-store : r ≡ 3 → sound ≡ false → AskCause sound s a r
  -- "connection 0"
  connection_0 : r ≡ 4 → Any (λ c. c ≡ 0) (named a s).connections → AskCause sound s a r
  -- "clock above 2^64 − 60,001"
  late-clock : r ≡ 5 → Any (λ now. latest_clock < now) (named a s).clocks → AskCause sound s a r
  -- "more than 100 parents given"
  many-parents : r ≡ 6 → max_parents < (named a s).parents → AskCause sound s a r
  -- "Hashes that are too many or not strictly ascending"
  wrong-hashes : r ≡ 13 → WrongHashes (named a s).hashes → AskCause sound s a r
  -- "answer buffer shorter than its need"
  short-buffer : r ≡ 7 → length (named a s).buffer < (named a s).needs → AskCause sound s a r
  -- "a solicitation that would reply 1, with all Q package places held"
  no_place : r ≡ 8 → WouldSolicit (role_of a) s → s.places ≤ places_held s.table → AskCause sound s a r

abbrev pub Cause : ℕ → Bool → State → Call → ℕ → Type 0
Cause n sound s (Open L Q) r = OpeningCause n L Q r
Cause n sound s (Restore x) r = ReadingCause n x r
Cause n sound s (On a) r = AskCause sound s a r

-- "Opening tests 2, then 1. Other calls test 3 to 8 in turn." 13 "after the test of the store and before the buffer's"
abbrev pub tested : List ℕ
tested = 3 ∷ 4 ∷ 5 ∷ 6 ∷ 13 ∷ 7 ∷ 8 ∷ []

-- Of a reading: "gets 1 after those"
abbrev pub tested_reading : List ℕ
tested_reading = 11 ∷ 12 ∷ 1 ∷ []

-- the place of a number in such a list
abbrev pub turn : ℕ → List ℕ → ℕ
turn r [] = 0
turn r (n ∷ l) = if eqb r n then 0 else suc (turn r l)

abbrev pub Sooner : Call → ℕ → ℕ → Type 0
Sooner (Open L Q) i j = j < i
Sooner (Restore x) i j = turn i tested_reading < turn j tested_reading
Sooner (On a) i j = turn i tested < turn j tested

-- r is the number of the first cause that applies
pub record FirstCause (n : ℕ) (sound : Bool) (s : State) (c : Call) (r : ℕ) : Type 0 where
  pub applies : Cause n sound s c r
  pub none_sooner : (i : ℕ) → Sooner c i r → Cause n sound s c i → ⊥

-- carried out: reply, buffer and state are what the call does
abbrev pub carried : Call → State → Outcome
carried c s = record { reply = (carry_out c s).reply; buffer = written (answer_bytes (carry_out c s).reply) (buffer_of c s); state = (carry_out c s).state }

-- refused: "A refusal returns its number", and state and buffer are left as they were
abbrev pub refused_as : ℕ → Call → State → Outcome
refused_as r c s = record { reply = Refused r; buffer = buffer_of c s; state = s }

pub record Demand1 (n : ℕ) (sound : Bool) (c : Call) (s : State) : Type 0 where
  -- "None is given otherwise": a call of which no cause applies is carried out
  pub within : ((r : ℕ) → Cause n sound s c r → ⊥) → (refusal n sound c s ≡ 0) × (step_if n sound c s ≡ carried c s)
  -- any other is refused with the number of the first cause in turn
  pub beyond : (r : ℕ) → FirstCause n sound s c r → (refusal n sound c s ≡ r) × (step_if n sound c s ≡ refused_as r c s)
  -- and there is no third
  pub either : ((r : ℕ) → Cause n sound s c r → ⊥) ⊎ ((r : ℕ) × FirstCause n sound s c r)
