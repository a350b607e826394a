-- Parents of a place announced together, and which of them were kept noted as the bits of a number, the first the least.
use Rattle.std.specs.Prelude.{ℕ, zero, suc, ◌+◌, ◌*◌, ◌/◌, ◌%◌, ◌≤◌, ◌≡◌, Bool, true, List, [], ◌∷◌, ◌++◌, eqb, length, take, drop, if◌then◌else◌}
use Rattle.ident.specs.Number.{Key, txid}
use Rattle.ident.specs.Words.{hash_num}
use Rattle.regions.specs.Rows.{quad_number, read_quad}
use Rattle.places.specs.Places.{list_most, place_size, parents_at}
use Rattle.machine.specs.Limits.{Limits}
use Rattle.machine.specs.State.{Table, State, limits_of}
use Rattle.machine.specs.Table.{one}
use Rattle.machine.specs.Fail.{parents_from}
use Rattle.announcing.specs.Answers.{one_parent}
use Rattle.parenting.specs.declared.parent.Parent.{Parent}
use Rattle.parenting.specs.Displacing.{Spent, Reserve}
use Rattle.apart.specs.declared.noting.Announced.{Announced}
use Rattle.apart.specs.Apart.{Slot, SlotOf}
use Rattle.postponing.specs.Pending.{Plain}
use Rattle.apart.specs.Delayed.{Delay, Front, Open}

-- ---- parents of a place, read from its words

abbrev pub parent_in : List ℕ → ℕ → ℕ
parent_in w j = quad_number (read_quad (drop (place_size * 0 + (parents_at + 4 * j)) w))

-- n of them from the j-th on
unfoldable pub hashes_at : List ℕ → ℕ → ℕ → List ℕ
hashes_at w j zero = []
hashes_at w j (suc n) = parent_in w j ∷ hashes_at w (suc j) n

-- p is the j-th, announced for the connection n at `now`
pub record ParentAt (w : List ℕ) (n now j : ℕ) (p : Parent) : Type 0 where
  pub hash : hash_num p.hash ≡ parent_in w j
  pub connection : p.connection.number ≡ n
  pub clock : p.clock ≡ now
  pub priority : p.priority ≡ j

-- how many a place has
pub record ParentsIn (z : List ℕ) (r : ℕ) : Type 0 where
  pub most : r ≤ list_most
  pub is : (x : Slot) → SlotOf z x → length x.place.parents ≤ list_most → r ≡ length x.place.parents

-- ---- bits

-- those of a list whose bits are set, in order
unfoldable pub picked : List ℕ → ℕ → List Key
picked [] r = []
picked (h ∷ hs) r = if eqb (r % 2) 1 then txid h ∷ picked hs (r / 2) else picked hs (r / 2)

-- the bits of those kept
unfoldable pub kept_bits : Limits → ℕ → ℕ → ℕ → List ℕ → Table → ℕ
kept_bits m n now i [] t = 0
kept_bits m n now i (h ∷ hs) t = one (one_parent m n now h i t).reply + 2 * kept_bits m n now (suc i) hs (one_parent m n now h i t).table

-- a number of 64 bits has room for half of the parents of a place
abbrev pub half_most : ℕ
half_most = 50

-- r is the first half of n, or n
pub record Halved (n r : ℕ) : Type 0 where
  pub most : r ≤ half_most
  pub within : r ≤ n
  pub rest : n ≤ list_most → n ≤ r + half_most
  pub front : (l : List ℕ) → length l ≡ n → take r l ≡ take half_most l
  pub behind : (l : List ℕ) → length l ≡ n → drop r l ≡ drop half_most l

-- those noted in the two halves
abbrev pub picked_in : List ℕ → ℕ → ℕ → List Key
picked_in hs low high = picked (take half_most hs) low ++ picked (drop half_most hs) high

-- ---- parts of contracts

-- the bits of one half, what waits after it, and what is known of the victims
pub record Half : Type 0 where
  pub bits : ℕ
  pub delay : Delay
  pub reserve : Reserve

-- the parents hs are announced for the connection n at `now`, the first with the priority i, where others wait and q is known of the victims in the words v
module _ (n now : ℕ) where
  pub record HalfAt (l : Bool) (b' v' : List ℕ) (i : ℕ) (hs : List ℕ) (st : State) (t : Table) (r : Half) : Type 0 where
    pub bits : r.bits ≡ kept_bits (limits_of st) n now i hs t
    pub opened : Open n l b' v' r.delay r.reserve st (parents_from (limits_of st) n now i hs t).table

  abbrev pub HalfIn : List ℕ → List ℕ → List ℕ → List ℕ → ℕ → List ℕ → Delay → Reserve → Half → Type 0
  HalfIn b b' v v' i hs e q r = (l : Bool) (st : State) (t : Table) → Open n l b v e q st t → HalfAt l b' v' i hs st t r

-- all hashes hs are announced, those kept noted in two halves
pub record NotedAt (b' : List ℕ) (e e' : Delay) (n now : ℕ) (hs : List ℕ) (st : State) (t : Table) (r : Announced) : Type 0 where
  pub keys : picked_in hs r.note.low r.note.high ≡ (parents_from (limits_of st) n now 0 hs t).keys
  pub front : (e.later ≡ true → Plain (parents_from (limits_of st) n now 0 hs t).table) → Front b' e' st (parents_from (limits_of st) n now 0 hs t).table
  pub none_left : r.spent ≡ true → Spent (parents_from (limits_of st) n now 0 hs t).table

abbrev pub Noted : List ℕ → List ℕ → Delay → Delay → Bool → ℕ → ℕ → List ℕ → Announced → Type 0
Noted b b' e e' spent n now hs r = (st : State) (t : Table) → Front b e st t → (spent ≡ true → Spent t) → NotedAt b' e e' n now hs st t r
