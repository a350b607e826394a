-- The lists that are kept between lines, what a line means beside them, and what it leaves of them (docs/EVENTS.md, "Answers").
use Rattle.std.specs.Prelude.{ℕ, List, []}
use Rattle.machine.specs.State.{Entry}
use Rattle.machine.specs.Call.{Claim, Arrange, Call, Open, On, Restore}
use Rattle.machine.specs.Step.{Reply, Refused, Number, Keys, Left, Entries, Chosen, Summed, Owned, Saved}
use Rattle.reading.specs.Line.{Line, Asks, Take, Send, Part}
use Rattle.asking.specs.Calls.{answer_buffer}

-- the entries of the last carried-out plan, take and arrangement
pub record KeptLists : Type 0 where
  pub plan : List Entry
  pub taken : List Entry
  pub arranged : List Entry

abbrev pub no_lists : KeptLists
no_lists = record { plan = []; taken = []; arranged = [] }

-- a call, or one connection's part of what is arranged, which is none
pub data Meant : Type 0 where
  Calls : (c : Call) → Meant
  Parts : (connection : ℕ) → Meant

-- "take: claim of the last carried-out `plan` or `want`", "send: arranging the last carried-out `take`", "part: one connection's part of the last arranged list"
abbrev pub meant : KeptLists → Line → Meant
meant k (Asks c) = Calls c
meant k (Take now) = Calls (On (Claim now k.plan answer_buffer))
meant k (Send ws) = Calls (On (Arrange ws k.taken answer_buffer))
meant k (Part n) = Parts n

-- ---- what is kept afterwards

-- what a plan has selected, if the reply is that of a plan; else what was kept
abbrev pub chosen_or : List Entry → Reply → List Entry
chosen_or l (Refused n) = l
chosen_or l (Number n) = l
chosen_or l (Keys ks) = l
chosen_or l (Left own parents) = l
chosen_or l (Entries m) = l
chosen_or l (Chosen considered m next) = m
chosen_or l (Summed s) = l
chosen_or l (Owned passed m) = l
chosen_or l (Saved t) = l

-- the entries of a reply, if it lists entries; else what was kept
abbrev pub entries_or : List Entry → Reply → List Entry
entries_or l (Refused n) = l
entries_or l (Number n) = l
entries_or l (Keys ks) = l
entries_or l (Left own parents) = l
entries_or l (Entries m) = m
entries_or l (Chosen considered m next) = l
entries_or l (Summed s) = l
entries_or l (Owned passed m) = l
entries_or l (Saved t) = l

-- "An `ok` of an `open` empties the kept plan, take and arrangement; nothing else does."
abbrev pub after_opening : KeptLists → Reply → KeptLists
after_opening k (Refused n) = k
after_opening k (Number n) = no_lists
after_opening k (Keys ks) = k
after_opening k (Left own parents) = k
after_opening k (Entries m) = k
after_opening k (Chosen considered m next) = k
after_opening k (Summed s) = k
after_opening k (Owned passed m) = k
after_opening k (Saved t) = k

-- "`take` does not use the plan up."
abbrev pub kept_after : Line → Reply → KeptLists → KeptLists
kept_after (Asks (Open L Q)) y k = after_opening k y
kept_after (Asks (Restore x)) y k = k
kept_after (Asks (On a)) y k = record { plan = chosen_or k.plan y; taken = k.taken; arranged = k.arranged }
kept_after (Take now) y k = record { plan = k.plan; taken = entries_or k.taken y; arranged = k.arranged }
kept_after (Send ws) y k = record { plan = k.plan; taken = k.taken; arranged = entries_or k.arranged y }
kept_after (Part n) y k = k
