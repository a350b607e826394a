-- Parents where L are held: the victims that give way to them are listed beside the store and go later, or it is known that there are none.
use Rattle.std.specs.Prelude.{ℕ, ◌+◌, ◌≤◌, ◌<◌, ◌≡◌, Bool, true, false, List, []}
use Rattle.machine.specs.State.{Entry, Table, State, limits_of, on_table}
use Rattle.machine.specs.Table.{is_candidate, held}
use Rattle.machine.specs.Announce.{victims, anywhere}
use Rattle.machine.specs.Sound.{Sound}
use Rattle.machine.specs.Typed.{Each}
use Rattle.store.specs.Image.{Writes}
use Rattle.requests.specs.Changes.{Tells}
use Rattle.announcing.specs.Answers.{one_parent}
use Rattle.announcing.specs.Falls.{VictimsIn}
use Rattle.gathering.specs.Waits.{pushes, waits}
use Rattle.gathering.specs.Aside.{Mixed}
use Rattle.gathering.specs.Deferring.{Owing, left_by}
use Rattle.gathering.specs.declared.beside.Fare.{Fare}
use Rattle.gathering.specs.declared.beside.Fare.TheVariants as fare
use Rattle.parenting.specs.declared.displacing.Known.{Known}
use Rattle.parenting.specs.Waiting.{marks, keys_of, Parental, Beside, NextAt}

-- no candidate of the table can be evicted
abbrev pub Spent : Table → Type 0
Spent t = victims anywhere t ≡ []

-- if x says so, no candidate can be evicted in the sound state that the bytes b write
abbrev pub Exhausted : List ℕ → Bool → Type 0
Exhausted b x = x ≡ true → Tells b Spent

-- what is known of the victims: so many are listed, of which as many as parents wait are to go; whether nobody can be evicted
pub record Reserve : Type 0 where
  pub count : ℕ
  pub spent : Bool

abbrev pub reserve_of : Known → Reserve
reserve_of k = record { count = k.listed.count; spent = k.spent }

-- no victim is listed
abbrev pub unlisted : Bool → Reserve
unlisted spent = record { count = 0; spent = spent }

-- whether a parent was kept, how many wait after it, and what is known of the victims
pub record Further : Type 0 where
  pub kept : Bool
  pub waiting : ℕ
  pub reserve : Reserve

-- ---- what is asked of the store

-- r tells that L are held, that nobody waits, and that nothing is known of victims
pub record Lacks (b : List ℕ) (d : ℕ) (q : Reserve) (r : Bool) : Type 0 where
  pub alone : r ≡ true → d ≡ 0
  pub unknown : r ≡ true → q.count ≡ 0
  pub full : r ≡ true → (st : State) → Sound st → Writes b st → st.limit ≤ held st.table

-- r tells that L are held and the connection n has announced the hash h under neither kind
pub record ShutOut (b : List ℕ) (h n : ℕ) (r : Bool) : Type 0 where
  pub new : r ≡ true → (st : State) → Sound st → Writes b st → is_candidate n h st.table ≡ false
  pub full : r ≡ true → (st : State) → Sound st → Writes b st → st.limit ≤ held st.table

-- r of false: the connection n has announced the hash h under neither kind, and none of the d that wait is at it
pub record Unknown (b w : List ℕ) (d h n : ℕ) (r : Bool) : Type 0 where
  pub new : r ≡ false → (st : State) → Sound st → Writes b st → is_candidate n h st.table ≡ false
  pub apart : r ≡ false → (st : State) → Sound st → Writes b st → (es : List Entry) → Mixed st.table es w d → waits h es ≡ false

-- one parent, announced where no candidate can be evicted
pub record Unaided (b b' : List ℕ) (n now h i : ℕ) (r : Bool) : Type 0 where
  pub reply : (st : State) → Sound st → Writes b st → Spent st.table → r ≡ (one_parent (limits_of st) n now h i st.table).reply
  pub table : (st : State) → Sound st → Writes b st → Spent st.table → Writes b' (on_table (one_parent (limits_of st) n now h i st.table).table st)

-- ---- those that wait, and their victims

module _ (n : ℕ) where
  -- as Beside, where the first d of the m victims listed in the words v are still to go
  pub record Owes (b w v : List ℕ) (d m : ℕ) (st : State) (t : Table) : Type 0 where
    pub base : Table
    pub owing : Owing b w v n d m (on_table base st)
    pub listed : VictimsIn b v m
    pub parental : Each Parental owing.entries
    pub together : Sound (on_table (pushes owing.entries (left_by owing)) st)
    pub table : t ≡ marks (keys_of owing.entries) (pushes owing.entries (left_by owing))

  -- d parents wait beside the store, and q says what is known of the victims: by a count above 0 they wait for victims
  pub record Supplied (b w v : List ℕ) (d : ℕ) (st : State) (t : Table) (q : Reserve) : Type 0 where
    pub free : q.count ≡ 0 → Beside n b w d st t
    pub owed : 0 < q.count → Owes b w v d q.count st t
    pub none_left : q.spent ≡ true → Spent t

  -- some state and table
  pub record Supplies (b w v : List ℕ) (d : ℕ) (q : Reserve) : Type 0 where
    pub state : State
    pub with_them : Table
    pub supplied : Supplied b w v d state with_them q

  -- what is known afterwards, r, if q was known before
  abbrev pub Restocked : List ℕ → List ℕ → List ℕ → List ℕ → ℕ → Reserve → Reserve → Type 0
  Restocked b w v v' d q r = (st : State) (t : Table) → Supplied b w v d st t q → Supplied b w v' d st t r

  -- the victims have gone and those for whom they went have come in: e wait then, for no victim
  abbrev pub Settled : List ℕ → List ℕ → List ℕ → List ℕ → List ℕ → ℕ → ℕ → Reserve → Type 0
  Settled b b' w w' v d e q = (st : State) (t : Table) → Supplied b w v d st t q → Beside n b' w' e st t

  -- all have come in
  abbrev pub Finished : List ℕ → List ℕ → List ℕ → List ℕ → ℕ → Reserve → Type 0
  Finished b b' w v d q = (st : State) (t : Table) → Supplied b w v d st t q → Sound (on_table t st) × Writes b' (on_table t st)

-- ---- the parent h is announced for the connection n at `now`, with the priority i

module _ (n now h i : ℕ) where
  pub record FurtherAt (b' w' v' : List ℕ) (st : State) (t : Table) (r : Further) : Type 0 where
    pub reply : r.kept ≡ (one_parent (limits_of st) n now h i t).reply
    pub supplied : Supplied n b' w' v' r.waiting st (one_parent (limits_of st) n now h i t).table r.reserve

  abbrev pub FurtherIn : List ℕ → List ℕ → List ℕ → List ℕ → List ℕ → List ℕ → ℕ → Reserve → Further → Type 0
  FurtherIn b b' w w' v v' d q r = (st : State) (t : Table) → Supplied n b w v d st t q → FurtherAt b' w' v' st t r

  -- whatever words there are beside, which hold no victims
  abbrev pub FurtherAlone : List ℕ → List ℕ → List ℕ → List ℕ → ℕ → Reserve → Further → Type 0
  FurtherAlone b b' w w' d q r = (v : List ℕ) → FurtherIn b b' w w' v v d q r

  -- r tells how it fares beside the d that wait for victims; one that is to be announced by itself is not announced
  pub record DefersWith (b w w' v : List ℕ) (d : ℕ) (q : Reserve) (r : Fare) : Type 0 where
    pub nothing : r ≡ fare.Nothing → (st : State) (t : Table) → Supplied n b w v d st t q → FurtherAt b w' v st t (record { kept = false; waiting = d; reserve = q })
    pub waits : r ≡ fare.Waits → (st : State) (t : Table) → Supplied n b w v d st t q → FurtherAt b w' v st t (record { kept = true; waiting = d + 1; reserve = q })
    pub alone : r ≡ fare.Alone → (st : State) (t : Table) → Supplied n b w v d st t q → Supplied n b w' v d st t q

  -- r tells whether it is adopted in place while the d before it wait on for their victims, or else nothing is done
  pub record AdoptsListed (b b' w v : List ℕ) (d : ℕ) (q : Reserve) (r : Bool) : Type 0 where
    pub adopts : r ≡ true → (st : State) (t : Table) → Supplied n b w v d st t q → FurtherAt b' w v st t (record { kept = true; waiting = d; reserve = q })
    pub alone : r ≡ false → b' ≡ b

  -- it is announced by itself, where no candidate can be evicted
  abbrev pub SpentIn : List ℕ → List ℕ → List ℕ → List ℕ → ℕ → Bool → Type 0
  SpentIn b b' w w' d r = (st : State) (t : Table) → Beside n b w d st t → Spent t → NextAt n now h i b' w' st t (record { kept = r; waiting = 0 })
