-- announce_transactions in parts: offers that are collected beside the store and come in together.
use Rattle.std.specs.Prelude.{ℕ, ◌+◌, ◌-◌, ◌≤◌, ◌<◌, ◌≡◌, List, length, take, drop, get_or}
use Rattle.machine.specs.Limits.{Limits}
use Rattle.machine.specs.State.{Candidate, Entry, State, Table, limits_of}
use Rattle.machine.specs.Table.{held}
use Rattle.machine.specs.Wrapper.{Offer, offered, offers_from}
use Rattle.machine.specs.Sound.{Sound}
use Rattle.store.specs.Image.{Writes}
use Rattle.gathering.specs.Waits.{pushes}
use Rattle.gathering.specs.Aside.{space, Aside}
use Rattle.wrapping.specs.declared.offering.Terms.{Terms}
use Rattle.claims.specs.Changes.{Becomes}

-- the offers from the i-th on and before the j-th
abbrev pub between : ℕ → ℕ → List Offer → List Offer
between i j os = take (j - i) (drop i os)

-- what the machine makes of offers on these terms
abbrev pub announced : Terms → List Offer → Limits → Table → Table
announced a os m t = offers_from m a.connection.number a.clock.time a.preferred a.source a.late os t

-- of the offers os d wait beside the table t, with rows in the words w: they come to the same as the offers
pub record Collected (m : Limits) (a : Terms) (os : List Offer) (t : Table) (w : List ℕ) (d : ℕ) : Type 0 where
  pub entries : List Entry
  pub aside : Aside a.connection.number t entries w d
  pub room : held t + d ≤ m.announcements
  pub table : announced a os m t ≡ pushes entries t

-- those of the offers from the i-th on and before the j-th
pub record Collects (b w : List ℕ) (a : Terms) (os : List Offer) (i j d : ℕ) : Type 0 where
  pub from : i ≤ j
  pub inside : j ≤ length os
  pub few : d ≤ space
  pub collected : (st : State) → Sound st → Writes b st → Collected (limits_of st) a (between i j os) st.table w d

-- the offers from the i-th on and before the j-th are announced
pub record Announced (b b' : List ℕ) (a : Terms) (os : List Offer) (i j : ℕ) : Type 0 where
  pub more : i < j
  pub inside : j ≤ length os
  pub table : Becomes b b' (announced a (between i j os))

-- c is the candidate that the i-th offer makes
abbrev pub Offers : Terms → List Offer → ℕ → Candidate → Type 0
Offers a os i c = (d : Offer) → c ≡ offered a.connection.number a.clock.time a.preferred a.source a.late (get_or os i d)
