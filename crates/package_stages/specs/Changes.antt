-- What the contracts say of one request: its owner and stage, its place, and how flag, package and parents change.
use Rattle.std.specs.Prelude.{ℕ, ◌+◌, ◌≤◌, ◌<◌, ◌≡◌, Bool, true, false, ◌||◌, Result, Ok, Err, List, [], ◌∷◌, ◌++◌, length, get_or}
use Rattle.std.specs.Prelude as rust
use Rattle.std.specs.Prelude.{Some, None}
use Rattle.std.proofs.Math.Option.{Option, none, some}
use Rattle.ident.specs.Number.{top, Key, place, wtxid}
use Rattle.regions.specs.declared.Row.{Row}
use Rattle.regions.specs.Order.{Bound}
use Rattle.machine.specs.Limits.{max_parents}
use Rattle.machine.specs.State as machine
use Rattle.machine.specs.State.{Owner, Package, Table, is_some}
use Rattle.machine.specs.Table.{at, one}
use Rattle.store.specs.Flat.{Flat, own_bit, places_of}
use Rattle.store.specs.Image.{Shows}
use Rattle.store.specs.Shown.{held_places_in}
use Rattle.requests.specs.Changes.{Spans, Tells}
use Rattle.package_stages.specs.declared.Request.{Request}
use Rattle.package_stages.specs.declared.Owner.{Owner as OwnerRead}
use Rattle.package_stages.specs.declared.Stage.{Stage}
use Rattle.package_stages.specs.declared.Stage.TheVariants.{Flagged, Awaiting, Enqueued}
use Rattle.package_stages.specs.Records.{place_hashes}

-- ---- a request as it is read

abbrev pub owner_as : rust.Option OwnerRead → Option Owner
owner_as None = none
owner_as (Some o) = some (record { connection = o.connection; deadline = o.deadline })

-- the connection of an owner; 0 stands for none: no connection is 0
abbrev pub owner_num : Option Owner → ℕ
owner_num none = 0
owner_num (some o) = o.connection

-- the word of a place that has the stage; 0 is none
abbrev pub stage_word : rust.Option Stage → ℕ
stage_word None = 0
stage_word (Some Flagged) = 1
stage_word (Some Awaiting) = 2
stage_word (Some Enqueued) = 3

-- 0 neither flag nor package, 1 flag, 2 Awaiting, 3 Enqueued
abbrev pub stage_of : Bool → Option Package → ℕ
stage_of info (some p) = 2 + one p.enqueued
stage_of true none = 1
stage_of false none = 0

abbrev pub wtxids_of : Option Package → List ℕ
wtxids_of none = []
wtxids_of (some p) = p.wtxids

abbrev pub combined_of : Option Package → ℕ
combined_of none = 0
combined_of (some p) = p.combined

-- "A place is held by a request with a package-info flag or a package, and by no other."
abbrev pub has_place : machine.Request → Bool
has_place q = q.info || is_some q.«package»

pub record RequestOf (q : machine.Request) (r : Request) : Type 0 where
  pub owner : owner_as r.owner ≡ q.owner
  pub stage : stage_word r.stage ≡ stage_of q.info q.«package»
  pub mark : r.mark ≡ q.fallback

pub record RequestAt (b : List ℕ) (k : Key) (r : Request) : Type 0 where
  pub spans : Spans b (place k) r.rows.from r.rows.to
  pub is : Tells b (λ t. RequestOf (at k t) r)

-- ---- the owner among rows

-- one of the rows from .. to owns its request, and names the owner
pub record OwnerRow (rs : List Row) (d : Row) (from to : ℕ) (o : OwnerRead) : Type 0 where
  pub index : ℕ
  pub least : from ≤ index
  pub most : index < to
  pub owns : own_bit (get_or rs index d) ≡ 1
  pub connection : o.connection ≡ (get_or rs index d).conn
  pub deadline : o.deadline ≡ (get_or rs index d).deadline

-- none of them does
abbrev pub NoOwnerRow : List Row → Row → ℕ → ℕ → Type 0
NoOwnerRow rs d from to = (j : ℕ) → from ≤ j → j < to → own_bit (get_or rs j d) ≡ 1 → ⊥

abbrev pub OwnerAmong : List ℕ → ℕ → ℕ → rust.Option OwnerRead → Type 0
OwnerAmong b from to None = (f : Flat) (d : Row) → Shows b f → NoOwnerRow f.rows d from to
OwnerAmong b from to (Some o) = (f : Flat) (d : Row) → Shows b f → OwnerRow f.rows d from to o

-- ---- where the place of a hash stands

-- the place of the hash h is the i-th, or would be
pub record PlaceSpot (t : Table) (h i : ℕ) (held : Bool) : Type 0 where
  pub bound : Bound (place_hashes (places_of t)) h i
  pub held_is : held ≡ has_place (at (wtxid h) t)

pub record SpotOf (b : List ℕ) (h i : ℕ) (held : Bool) : Type 0 where
  pub small : h < top
  pub most : i ≤ held_places_in b
  pub inside : held ≡ true → i < held_places_in b
  pub is : Tells b (λ t. PlaceSpot t h i held)

-- what a search for the hash h answers: its place, or where that would be
abbrev pub Sought : List ℕ → ℕ → Result ℕ ℕ → Type 0
Sought b h (Ok i) = SpotOf b h i true
Sought b h (Err i) = SpotOf b h i false

-- P holds of every request whose place is the i-th
abbrev pub ReadAt : List ℕ → ℕ → (machine.Request → Type 0) → Type 0
ReadAt b i P = (h : ℕ) → h < top → Tells b (λ t. PlaceSpot t h i true → P (at (wtxid h) t))

-- ---- changes

-- an owner, and neither flag nor package
pub record OwnedPlain (q : machine.Request) : Type 0 where
  pub owned : is_some q.owner ≡ true
  pub info : q.info ≡ false
  pub bare : q.«package» ≡ none

-- the flag set, with no parents yet
abbrev pub flagged : machine.Request → machine.Request
flagged q = record { key = q.key; candidates = q.candidates; owner = q.owner; info = true; «package» = q.«package»; parents = []; fallback = q.fallback }

-- room for one more parent beside flag or package
pub record TakesParent (q : machine.Request) : Type 0 where
  pub held : has_place q ≡ true
  pub few : length q.parents < max_parents

-- one parent more
abbrev pub with_parent : ℕ → machine.Request → machine.Request
with_parent h q = record { key = q.key; candidates = q.candidates; owner = q.owner; info = q.info; «package» = q.«package»; parents = q.parents ++ (h ∷ []); fallback = q.fallback }

-- the flag, and no package
pub record FlagOnly (q : machine.Request) : Type 0 where
  pub info : q.info ≡ true
  pub bare : q.«package» ≡ none

-- the package p, which is Enqueued from now on
abbrev pub begun : Package → Package
begun p = record { combined = p.combined; wtxids = p.wtxids; enqueued = true }

-- flag, package and parents gone; the owner stays
abbrev pub closed : machine.Request → machine.Request
closed q = record { key = q.key; candidates = q.candidates; owner = q.owner; info = false; «package» = none; parents = []; fallback = q.fallback }
