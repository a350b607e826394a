-- What the contracts of choosing say: the machine's choice, as rows have it.
use Rattle.std.specs.Prelude as rust
use Rattle.std.specs.Prelude.{ℕ, ◌<◌, ◌≡◌, Bool, true, false, ◌||◌, List, [], ◌∷◌, eqb, length, get_or, IfSome, if◌then◌else◌}
use Rattle.std.proofs.Math.Option.{Option, none, some}
use Rattle.ident.specs.declared.Kind.{Kind}
use Rattle.ident.specs.declared.Kind.TheVariants.{Txid, Wtxid}
use Rattle.ident.specs.Number.{top, Key, place, txid}
use Rattle.regions.specs.declared.Row.{Row}
use Rattle.machine.specs.State.{Candidate, Table, Entry}
use Rattle.machine.specs.Table.{owned_at}
use Rattle.machine.specs.Plan.{able, better, or_else, choice}
use Rattle.machine.specs.Later.{wait_for}
use Rattle.store.specs.Flat.{Flat, rows_of}
use Rattle.store.specs.FlatSound.{owns}
use Rattle.store.specs.Gather.{candidate_at}
use Rattle.store.specs.Image.{Shows}
use Rattle.store.specs.declared.rows.Window.{Window}
use Rattle.requests.specs.Changes.{Spans, Tells}
use Rattle.announcing.specs.Evicts.{entry_at, part}
use Rattle.choosing.specs.declared.Pick.{Pick}
use Rattle.choosing.specs.declared.Chosen.{Chosen}

-- the machine's option of an option in the code
abbrev pub option_of : {A : Type 0} → rust.Option A → Option A
option_of rust.None = none
option_of (rust.Some x) = some x

-- what a scan has found
abbrev pub picked : rust.Option Pick → Option Entry
picked rust.None = none
picked (rust.Some v) = some (entry_at v.row)

-- one row in front of those whose choice is o
abbrev pub with_row : (Candidate → Bool) → Row → Option Entry → Option Entry
with_row p r o = if p (candidate_at r) then better (entry_at r) o else o

-- the least of the rows whose candidates pass, by arrival where equal
unfoldable pub least_rows : (Candidate → Bool) → List Row → Option Entry
least_rows p [] = none
least_rows p (r ∷ rs) = with_row p r (least_rows p rs)

-- one of these rows owns its request
unfoldable pub any_owns : List Row → Bool
any_owns [] = false
any_owns (r ∷ rs) = owns r || any_owns rs

-- "A key whose hash is unowned .. yields": what is chosen at a key, where nobody owns its hash
abbrev pub free_choice : ℕ → Table → Key → Option Entry
free_choice now t k = if eqb (owned_at k.hash t) 0 then choice now t [] k else none

-- and when a candidate is ready, where none of a key is: document 02, request c
abbrev pub free_wait : ℕ → Table → Key → Option ℕ
free_wait now t k = if eqb (owned_at k.hash t) 0 then wait_for now t k else none

-- ---- what the scan finds, and where

-- r is the i-th of the rows
pub record Stood (rs : List Row) (i : ℕ) (r : Row) : Type 0 where
  pub inside : i < length rs
  pub row_is : (d : Row) → r ≡ get_or rs i d

-- what has been found stands where it says
abbrev pub Found : List Row → rust.Option Pick → Type 0
Found rs v = IfSome v (λ p. Stood rs p.at p.row)

-- the better of the i-th row and of what was found
pub record Better (r : Row) (i : ℕ) (best v : rust.Option Pick) : Type 0 where
  pub is : picked v ≡ better (entry_at r) (picked best)
  pub found : (rs : List Row) → Stood rs i r → Found rs best → Found rs v

pub record Either (a b v : rust.Option Pick) : Type 0 where
  pub is : picked v ≡ or_else (picked a) (picked b)
  pub found : (rs : List Row) → Found rs a → Found rs b → Found rs v

pub record WithRow (b : List ℕ) (now : ℕ) (r : Row) (i : ℕ) (best v : rust.Option Pick) : Type 0 where
  pub is : Tells b (λ t. picked v ≡ with_row (able now t []) r (picked best))
  pub found : (rs : List Row) → Stood rs i r → Found rs best → Found rs v

-- the least of the rows from .. to
pub record Least (b : List ℕ) (now from to : ℕ) (v : rust.Option Pick) : Type 0 where
  pub is : Tells b (λ t. picked v ≡ least_rows (able now t []) (part from to (rows_of t)))
  pub found : (f : Flat) → Shows b f → Found f.rows v

-- the rows of the hash h under one kind
pub record WindowAs (b : List ℕ) (k : Kind) (h : ℕ) (w : Window) : Type 0 where
  pub small : h < top
  pub spans : Spans b (place (record { kind = k; hash = h })) w.from w.to

-- its rows stand in x as Txid and in y as Wtxid
pub record Windows (b : List ℕ) (h : ℕ) (x y : Window) : Type 0 where
  pub as_txid : WindowAs b Txid h x
  pub as_wtxid : WindowAs b Wtxid h y

-- what is chosen for such a hash
pub record Choice (b : List ℕ) (now : ℕ) (x y : Window) (v : Chosen) : Type 0 where
  pub is : (h : ℕ) → Windows b h x y → Tells b (λ t. picked v.pick ≡ free_choice now t (txid h))
  pub found : (f : Flat) → Shows b f → Found f.rows v.pick
  pub wait : (h : ℕ) → Windows b h x y → Tells b (λ t. option_of v.wait ≡ free_wait now t (txid h))

-- for the hash h
pub record Chooses (b : List ℕ) (now h : ℕ) (v : Chosen) : Type 0 where
  pub is : Tells b (λ t. picked v.pick ≡ free_choice now t (txid h))
  pub wait : Tells b (λ t. option_of v.wait ≡ free_wait now t (txid h))
