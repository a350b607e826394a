-- What the numbers of an exported call say, in document 01's numbers and values.
use Rattle.std.specs.Prelude.{ℕ, zero, suc, ◌≡◌, List, Result, unwrap_or}
use Rattle.machine.specs.Call.{Buffer, Call}
use Rattle.machine.specs.Step.{Reply, Refused, Number, Summed}
use Rattle.outcome.specs.declared.refusal.Refusal.{Refusal}
use Rattle.outcome.specs.declared.Figures.{Figures}
use Rattle.outcome.specs.declared.Departure.{Departure}
use Rattle.outcome.specs.Outcome.{Leaves, LeavesWith}
use Rattle.outcome.specs.Reply.{keys_listed, left_listed, text_listed}
use Rattle.public_plans.specs.Entries.{entries_listed, chosen_listed}
use Rattle.public_plans.specs.Ownership.{owners_listed}
use Rattle.public_plans.specs.declared.Selection.{Selection}
use Rattle.outcome.specs.Refusals.{number_of}
use Rattle.crossing.specs.Handed.{StatusOf, HandedOut, handed}

-- The status of a public call's answer is its refusal's number, or 0: `refusal_in` (crates/outcome, specs/Refusals) says so too.
abbrev pub StatusIs : {T : Type 0} → Result T Refusal → ℕ → Type 0
StatusIs a status = StatusOf (λ r k. k ≡ number_of r) a status

-- an answer that is a number, or a count of keys or entries, or a text's length: its status, and the number handed out, which stood at `was` and is now `is`
abbrev pub NumberHanded : Result ℕ Refusal → ℕ → ℕ → ℕ → Type 0
NumberHanded a was is status = HandedOut (λ r k. k ≡ number_of r) a was is status

-- sum: its four figures
abbrev pub held_out : {E : Type 0} → Result Figures E → ℕ → ℕ
held_out a was = handed (λ (f : Figures). f.held) a was

abbrev pub free_out : {E : Type 0} → Result Figures E → ℕ → ℕ
free_out a was = handed (λ (f : Figures). f.free) a was

abbrev pub preferred_out : {E : Type 0} → Result Figures E → ℕ → ℕ
preferred_out a was = handed (λ (f : Figures). f.free_preferred) a was

abbrev pub permille_out : {E : Type 0} → Result Figures E → ℕ → ℕ
permille_out a was = handed (λ (f : Figures). f.permille) a was

-- a connection that left: the count of its own keys, and that of its parents'
abbrev pub own_out : {E : Type 0} → Result Departure E → ℕ → ℕ
own_out a was = handed (λ (d : Departure). d.own) a was

abbrev pub parents_out : {E : Type 0} → Result Departure E → ℕ → ℕ
parents_out a was = handed (λ (d : Departure). d.parents) a was

-- a plan: the count of keys considered, that of the entries, and when to look again, 0 standing for none
abbrev pub considered_out : {E : Type 0} → Result Selection E → ℕ → ℕ
considered_out a was = handed (λ (p : Selection). p.considered) a was

abbrev pub chosen_out : {E : Type 0} → Result Selection E → ℕ → ℕ
chosen_out a was = handed (λ (p : Selection). p.chosen) a was

abbrev pub next_out : {E : Type 0} → Result Selection E → ℕ → ℕ
next_out a was = handed (λ (p : Selection). unwrap_or p.next 0) a was

-- the reply of a status, and of what was handed out: r, if the call was carried out
abbrev pub told : ℕ → Reply → Reply
told zero r = r
told (suc k) r = Refused (suc k)

-- a number
abbrev pub numbered : ℕ → ℕ → Reply
numbered k n = told k (Number n)

-- the four figures of sum
abbrev pub figured : ℕ → ℕ → ℕ → ℕ → ℕ → Reply
figured k held free preferred permille = told k (Summed (record { held = held; free = free; preferred = preferred; permille = permille }))

-- a count: so many keys stand in the answer buffer
abbrev pub counted : ℕ → ℕ → Buffer → Reply
counted k n u = told k (keys_listed n u)

-- or so many entries
abbrev pub entered : ℕ → ℕ → Buffer → Reply
entered k n u = told k (entries_listed n u)

-- or a text of so many bytes
abbrev pub texted : ℕ → ℕ → Buffer → Reply
texted k n u = told k (text_listed n u)

-- two counts: so many keys stand there, and so many behind them
abbrev pub parted : ℕ → ℕ → ℕ → Buffer → Reply
parted k own parents u = told k (left_listed own parents u)

-- two counts and a time: so many keys were considered, so many entries stand there, and then is the next look
abbrev pub planned : ℕ → ℕ → ℕ → ℕ → Buffer → Reply
planned k considered n next u = told k (chosen_listed considered n next u)

-- a count: so many keys were passed, and the owners of the hashes stand there
abbrev pub owning : List ℕ → ℕ → ℕ → Buffer → Reply
owning hs k n u = told k (owners_listed hs n u)

-- a call that is refused hands nothing out: what stood there stays
abbrev pub Stays : ℕ → ℕ → ℕ → Type 0
Stays zero was is = Unit {0}
Stays (suc k) was is = is ≡ was

-- ---- the contract of an exported call in a line

-- What the public call leaves, its reply said by the status and by the number handed out, which stood at `was` and is now `is`. A call that is refused
-- hands nothing out.
abbrev pub HandsOut : Call → List ℕ → List ℕ → ℕ → ℕ → ℕ → Type 0
HandsOut c b b' status was is = Leaves c b b' (numbered status is) × Stays status was is

-- the same of a call that lists keys: u is left in the answer buffer, and their count is handed out
abbrev pub HandsKeys : Call → List ℕ → List ℕ → Buffer → ℕ → ℕ → ℕ → Type 0
HandsKeys c b b' u status was is = LeavesWith c b b' u (counted status is) × Stays status was is

-- or entries
abbrev pub HandsEntries : Call → List ℕ → List ℕ → Buffer → ℕ → ℕ → ℕ → Type 0
HandsEntries c b b' u status was is = LeavesWith c b b' u (entered status is) × Stays status was is

-- or the owners of the hashes hs: the count of keys passed is handed out
abbrev pub HandsOwners : Call → List ℕ → List ℕ → List ℕ → Buffer → ℕ → ℕ → ℕ → Type 0
HandsOwners c hs b b' u status was is = LeavesWith c b b' u (owning hs status is) × Stays status was is

-- or a text, whose length is handed out
abbrev pub HandsText : Call → List ℕ → List ℕ → Buffer → ℕ → ℕ → ℕ → Type 0
HandsText c b b' u status was is = LeavesWith c b b' u (texted status is) × Stays status was is

-- the same of a connection that left: the count of its own keys and that of its parents' are handed out
abbrev pub HandsDeparture : Call → List ℕ → List ℕ → Buffer → ℕ → ℕ → ℕ → ℕ → ℕ → Type 0
HandsDeparture c b b' u status was_own own was_parents parents = LeavesWith c b b' u (parted status own parents) × Stays status was_own own × Stays status was_parents parents

-- of a plan: the count of keys considered, that of the entries and the time of the next look are handed out
abbrev pub HandsPlan : Call → List ℕ → List ℕ → Buffer → ℕ → ℕ → ℕ → ℕ → ℕ → ℕ → ℕ → Type 0
HandsPlan c b b' u status was_k k was_n n was_x x = LeavesWith c b b' u (planned status k n x) × Stays status was_k k × Stays status was_n n × Stays status was_x x
