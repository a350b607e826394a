-- announce_transactions where L is held: offers that wait beside the store, each for a victim that is to go.
use Rattle.std.specs.Prelude.{ℕ, ◌≤◌, ◌≡◌, true, List, length}
use Rattle.machine.specs.State.{State, limits_of}
use Rattle.machine.specs.Table.{held}
use Rattle.machine.specs.Wrapper.{Offer}
use Rattle.machine.specs.Sound.{Sound}
use Rattle.store.specs.Image.{Writes}
use Rattle.announcing.specs.Falls.{Evictable}
use Rattle.gathering.specs.Waits.{pushes}
use Rattle.gathering.specs.Aside.{space}
use Rattle.gathering.specs.Deferring.{Owing, left_by}
use Rattle.wrapping.specs.declared.offering.Terms.{Terms}
use Rattle.claims.specs.Changes.{Becomes}
use Rattle.wrapping.specs.Batches.{between, announced}

-- L announcements are held in the sound state that the bytes b write
abbrev pub Whole : List ℕ → Type 0
Whole b = (st : State) → Sound st → Writes b st → held st.table ≡ st.limit

-- what stands once the offers os were announced from the state st on: d of them wait, and as many victims are to go
pub record Standing (b w v : List ℕ) (m d : ℕ) (a : Terms) (os : List Offer) (st : State) : Type 0 where
  pub owing : Owing b w v a.connection.number d m st
  pub same : announced a os (limits_of st) st.table ≡ pushes owing.entries (left_by owing)

-- the offers from the i-th on and before the j-th, whatever sound state the bytes b write
pub record Swaps (b w v : List ℕ) (m : ℕ) (a : Terms) (os : List Offer) (i j d : ℕ) : Type 0 where
  pub from : i ≤ j
  pub inside : j ≤ length os
  pub few : d ≤ space
  pub less : d ≤ m
  pub standing : (st : State) → Sound st → Writes b st → Standing b w v m d a (between i j os) st

-- the offers from the i-th on and before the j-th are announced; there may be none
pub record Went (b b' : List ℕ) (a : Terms) (os : List Offer) (i j : ℕ) : Type 0 where
  pub from : i ≤ j
  pub inside : j ≤ length os
  pub table : Becomes b b' (announced a (between i j os))

-- d of them have come in, and as many of the m victims listed have gone. If these are all, no other preferred offer changes anything.
pub record Settled (b b' : List ℕ) (m : ℕ) (a : Terms) (os : List Offer) (i j d : ℕ) : Type 0 where
  pub went : Went b b' a os i j
  pub others : Evictable b m → d ≡ m → a.preferred ≡ true → Went b b' a os i (length os)
