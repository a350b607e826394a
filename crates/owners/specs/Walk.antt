-- What the contracts of the walk along the rows say.
use Rattle.std.specs.Prelude as rust
use Rattle.std.specs.Prelude.{ℕ, suc, ◌+◌, ◌-◌, ◌≤◌, ◌<◌, ◌≡◌, Bool, List, [], ◌∷◌, eqb, ltb, get_or, if◌then◌else◌}
use Rattle.std.proofs.Math.Option.{Option, none}
use Rattle.ident.specs.Number.{top, kind_number}
use Rattle.regions.specs.declared.Row.{Row}
use Rattle.machine.specs.State.{Table}
use Rattle.machine.specs.Table.{keys}
use Rattle.machine.specs.Owners.{Holding, holding_as, or_holding, holding_at, holdings, keys_up_to, passed}
use Rattle.machine.specs.Step.{holding_words, holdings_answer, written}
use Rattle.store.specs.Flat.{Flat, rows_of}
use Rattle.store.specs.Gather.{key_at, owner_at}
use Rattle.store.specs.Image.{Shows}
use Rattle.store.specs.Shown.{rows_in}
use Rattle.requests.specs.Changes.{Tells}
use Rattle.announcing.specs.Evicts.{part}
use Rattle.sweeping.specs.Batches.{keys_over}
use Rattle.owners.specs.declared.Owner.{Owner}
use Rattle.owners.specs.declared.Stretch.{Stretch}

-- whether the i-th of these hashes is above the one before it
abbrev pub above_last : List ℕ → ℕ → Bool
above_last hs i = ltb (get_or hs (i - 1) 0) (get_or hs i 0)

-- the words of an owner in an answer, and of none
abbrev pub owner_words : rust.Option Owner → List ℕ
owner_words rust.None = 0 ∷ 0 ∷ 0 ∷ []
owner_words (rust.Some v) = suc (kind_number v.kind) ∷ v.connection ∷ v.deadline ∷ []

-- v has the words of what is answered of a hash
abbrev pub Says : rust.Option Owner → Option Holding → Type 0
Says v o = owner_words v ≡ holding_words o

-- ---- the owner of a hash, as rows name it

abbrev pub row_hash : Row → ℕ
row_hash r = (key_at r).hash

abbrev pub row_holding : ℕ → Row → Option Holding
row_holding h r = if eqb (row_hash r) h then holding_as (key_at r) (owner_at r none) else none

unfoldable pub holding_over : ℕ → List Row → Option Holding
holding_over h [] = none
holding_over h (r ∷ rs) = or_holding (row_holding h r) (holding_over h rs)

-- rows whose hashes do not fall
abbrev pub Rises : ℕ → List Row → Type 0
Rises lo [] = Unit {0}
Rises lo (r ∷ rs) = (lo ≤ row_hash r) × Rises (row_hash r) rs

-- ---- a stretch of rows up to the hash h, of those from .. to

-- what it says of them: keys are counted for every hash from h on, and behind it nothing is missed of a hash above h
pub record Stretched (rs : List Row) (from to h : ℕ) (r : Stretch) : Type 0 where
  pub counts : (g : ℕ) → h ≤ g → keys_up_to g (keys_over from to rs) ≡ r.keys + keys_up_to g (keys_over r.at to rs)
  pub passes : (g : ℕ) → h < g → holding_over g (part from to rs) ≡ holding_over g (part r.at to rs)
  pub rises : Rises 0 (part from to rs) → Rises 0 (part r.at to rs)
  pub ends : Rises 0 (part from to rs) → keys_up_to h (keys_over r.at to rs) ≡ 0
  pub names : Rises 0 (part from to rs) → Says r.owner (holding_over h (part from to rs))

pub record Along (b : List ℕ) (from to h : ℕ) (r : Stretch) : Type 0 where
  pub least : from ≤ r.at
  pub most : r.at ≤ to
  pub few : r.keys + from ≤ r.at
  pub is : (f : Flat) → Shows b f → Stretched f.rows from to h r

-- ---- the halves: the rows of Txid keys are those before m

pub record Parted (t : Table) (m n : ℕ) : Type 0 where
  pub txids : Rises 0 (part 0 m (rows_of t))
  pub wtxids : Rises 0 (part m n (rows_of t))
  pub owner : (h : ℕ) → h < top → or_holding (holding_over h (part 0 m (rows_of t))) (holding_over h (part m n (rows_of t))) ≡ holding_at t h
  pub keys-are : (g : ℕ) → keys_up_to g (keys_over 0 m (rows_of t)) + keys_up_to g (keys_over m n (rows_of t)) ≡ keys_up_to g (keys t)

pub record Halves (b : List ℕ) (m : ℕ) : Type 0 where
  pub most : m ≤ rows_in b
  pub is : Tells b (λ t. Parted t m (rows_in b))

-- ---- the whole: what is answered of the hashes hs, written over the first bytes of the buffer u

pub record OwnersListed (b hs u u' : List ℕ) (r : ℕ) : Type 0 where
  pub count : Tells b (λ t. r ≡ passed hs t)
  pub owners-are : Tells b (λ t. u' ≡ written (holdings_answer (holdings hs t)) u)
