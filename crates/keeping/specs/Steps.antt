-- What the contract of a reply says that lists entries, which are kept.
use Rattle.std.specs.Prelude.{ℕ, ◌≤◌, ◌≡◌, ◌⊎◌, List, length, Result, Ok, Err}
use Rattle.machine.specs.State.{Entry}
use Rattle.machine.specs.Call.{Buffer, Ask, On}
use Rattle.machine.specs.Step.{Reply, Refused, Chosen, answer_bytes}
use Rattle.store.specs.Image.{SoundStore}
use Rattle.outcome.specs.declared.refusal.Refusal.{Refusal}
use Rattle.outcome.specs.Refusals.{number_of}
use Rattle.printing.specs.Replies.{reply_text}
use Rattle.printing.specs.Given.{Printed, RefusedWith}
use Rattle.printing.specs.Kept.{chosen_or, entries_or}
use Rattle.choosing.specs.Choosing.{option_of}
use Rattle.claiming.specs.Claiming.{entries_from}
use Rattle.public_plans.specs.declared.Selection.{Selection}
use Rattle.public_plans.specs.Entries.{entries_listed}

-- it stands in an answer buffer of 12,000 bytes
pub record Listable (y : Reply) (u : Buffer) : Type 0 where
  pub long : length u ≡ 12000
  pub fits : length (answer_bytes y) ≤ length u

-- the reply y as text, and the entries l' of the list afterwards
pub record KeptReply (l' l : List Entry) (out out' : List ℕ) (y : Reply) (r : ℕ) : Type 0 where
  pub list : l' ≡ l
  pub text : (a : Ask) → Printed out out' (reply_text (On a) y) r

-- ---- answers whose refusals have any numbers (those of public calls: `entries_of` and `planned_of`)

-- the reply of an answer that lists entries, or is a refusal with the number k; and of a plan's
abbrev pub entries_with : {E : Type 0} → ℕ → Result ℕ E → Buffer → Reply
entries_with k (Ok n) u = entries_listed n u
entries_with k (Err e) u = Refused k

abbrev pub planned_with : {E : Type 0} → ℕ → Result Selection E → Buffer → Reply
planned_with k (Ok p) u = Chosen p.considered (entries_from u 0 p.chosen) (option_of p.next)
planned_with k (Err e) u = Refused k

-- what such an answer leaves of the list l, which is l' then
pub record EntriesKept {E : Type 0} (numbered : E → ℕ → Type 0) (a : Result ℕ E) (u : Buffer) (l l' : List Entry) (out out' : List ℕ) (r : ℕ) : Type 0 where
  pub number : ℕ
  pub given : RefusedWith numbered a number
  pub kept : KeptReply l' (entries_or l (entries_with number a u)) out out' (entries_with number a u) r

pub record SelectionKept {E : Type 0} (numbered : E → ℕ → Type 0) (a : Result Selection E) (u : Buffer) (l l' : List Entry) (out out' : List ℕ) (r : ℕ) : Type 0 where
  pub number : ℕ
  pub given : RefusedWith numbered a number
  pub kept : KeptReply l' (chosen_or l (planned_with number a u)) out out' (planned_with number a u) r

-- ---- one connection's part

-- a part of what is arranged is refused by 3, of a store that is not sound, or then by 4, of no connection
abbrev pub PartRefused : List ℕ → ℕ → Refusal → Type 0
PartRefused b n e = ((SoundStore b → ⊥) × (number_of e ≡ 3)) ⊎ (SoundStore b × (n ≡ 0) × (number_of e ≡ 4))
