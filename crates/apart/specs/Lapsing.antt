-- An owner whose time is over, where the places are set apart.
use Rattle.std.specs.Prelude.{eqb, ℕ, Bool, suc, ◌≤◌, ◌<◌, ◌≡◌, true, List, [], ◌∷◌, ◌++◌, length, take, get_or, set, if◌then◌else◌}
use Rattle.ident.specs.Number.{Key, place, wtxid}
use Rattle.places.specs.Places.{blank}
use Rattle.machine.specs.Limits.{Limits}
use Rattle.machine.specs.State.{Table, State, limits_of, on_table, owner_is}
use Rattle.machine.specs.Table.{at}
use Rattle.machine.specs.Fail.{Listed, failed, announce_parents, parents_for}
use Rattle.package_stages.specs.Records.{place_hashes}
use Rattle.apart.specs.Bare.{bare, bare_state}
use Rattle.apart.specs.declared.noting.Announced.{Announced}
use Rattle.apart.specs.declared.slots.Spot.{Spot}
use Rattle.apart.specs.declared.lapsing.Progress.{Progress}
use Rattle.apart.specs.Apart.{Slot, dying, at_rest, plain, Slots, Clear, ClearFrom, SpotHeld}
use Rattle.apart.specs.Delayed.{Delay, Front, Around}
use Rattle.parenting.specs.Displacing.{Spent}
use Rattle.apart.specs.Noting.{picked_in}

-- ---- what is noted of all places

-- the parents noted of a place
abbrev pub noted_of : Slot → List Key
noted_of x = picked_in x.place.parents x.low x.high

-- and of all, place by place
unfoldable pub noted : List Slot → List Key
noted [] = []
noted (x ∷ xs) = noted_of x ++ noted xs

-- nothing is noted of the places from the key number x on
abbrev pub ClearAt : ℕ → List Slot → Type 0
ClearAt x xs = (j : ℕ) (d : Slot) → j < length xs → x ≤ place (wtxid (get_or (place_hashes (plain xs)) j 0)) → Clear (get_or xs j d)

-- ---- the owner of a place

abbrev pub nowhere : Slot
nowhere = at_rest (blank 0 0)

-- the place of an Enqueued package stays, another dies
abbrev pub lapsed : Spot → List Slot → List Slot
lapsed r xs = if eqb r.stage 3 then xs else set xs r.at (dying (get_or xs r.at nowhere))

pub record LapsedTo (b' f' : List ℕ) (m : ℕ) (e' : Delay) (st : State) (xs : List Slot) (r : Spot) (k : Key) (n now : ℕ) : Type 0 where
  pub front : Front (take m b') e' (bare_state st) (bare (failed k n now st.table).table)
  pub slots : Slots b' f' m st.places (lapsed r xs)

abbrev pub Lapses : List ℕ → List ℕ → List ℕ → List ℕ → ℕ → Delay → Delay → Spot → Key → ℕ → ℕ → Type 0
Lapses b b' f f' m e e' r k n now = (st : State) (xs : List Slot) → Around b f m e st xs → SpotHeld (plain xs) k r → LapsedTo b' f' m e' st xs r k n now

-- some state's owner n at k, which has the place r; where `spent` says so nobody can be evicted
pub record PlaceExpiring (b f : List ℕ) (m : ℕ) (e : Delay) (r : Spot) (k : Key) (n : ℕ) (spent : Bool) : Type 0 where
  pub state : State
  pub places : List Slot
  pub around : Around b f m e state places
  pub held : SpotHeld (plain places) k r
  pub own : owner_is n (at k state.table).owner ≡ true
  pub none_left : spent ≡ true → Spent state.table

-- ---- an owner

-- one owner whose time is over: it fails, and its parents are announced for it
abbrev pub expire_at : Limits → ℕ → Key → ℕ → Table → Listed
expire_at m now k n t = announce_parents m n now (parents_for n (at k t)) (failed k n now t).table

-- the owner of a place: what it leaves, and the keys that are noted
pub record PlaceExpired (b' f' : List ℕ) (m : ℕ) (e' : Delay) (st : State) (xs : List Slot) (r : Spot) (k : Key) (n now : ℕ) (x : Announced) : Type 0 where
  pub around : Around b' f' m e' (on_table (expire_at (limits_of st) now k n st.table).table st) (lapsed r xs)
  pub keys : picked_in (get_or xs r.at nowhere).place.parents x.note.low x.note.high ≡ (expire_at (limits_of st) now k n st.table).keys
  pub none_left : x.spent ≡ true → Spent (expire_at (limits_of st) now k n st.table).table

abbrev pub PlaceExpires : List ℕ → List ℕ → List ℕ → List ℕ → ℕ → Delay → Delay → Spot → Key → ℕ → ℕ → Bool → Announced → Type 0
PlaceExpires b b' f f' m e e' r k n now spent x = (st : State) (xs : List Slot) → Around b f m e st xs → SpotHeld (plain xs) k r → owner_is n (at k st.table).owner ≡ true
    → (spent ≡ true → Spent st.table) → PlaceExpired b' f' m e' st xs r k n now x

-- some state's owner n at k, of c places
pub record Expiring (b f : List ℕ) (m c : ℕ) (e : Delay) (k : Key) (n : ℕ) (spent : Bool) : Type 0 where
  pub state : State
  pub places : List Slot
  pub around : Around b f m e state places
  pub count : c ≡ length places
  pub own : owner_is n (at k state.table).owner ≡ true
  pub none_left : spent ≡ true → Spent state.table

-- what one owner leaves, if q was known before: q.noted places have notes at most, and q.spent says that nobody can be evicted
pub record ExpiredTo (b' f' : List ℕ) (m : ℕ) (e' : Delay) (st : State) (xs : List Slot) (k : Key) (n now : ℕ) (q r : Progress) : Type 0 where
  pub places : List Slot
  pub around : Around b' f' m e' (on_table (expire_at (limits_of st) now k n st.table).table st) places
  pub hashes_same : place_hashes (plain places) ≡ place_hashes (plain xs)
  -- the keys of the parents kept are noted behind those noted before, if nothing is noted of its place or a later one
  pub keys : ClearAt (place k) xs → noted places ≡ noted xs ++ (expire_at (limits_of st) now k n st.table).keys
  pub later : ClearAt (place k) xs → ClearAt (suc (place k)) places
  pub few : ClearAt (place k) xs → ClearFrom q.noted xs → ClearFrom r.noted places
  pub none_left : r.spent ≡ true → Spent (expire_at (limits_of st) now k n st.table).table

pub record Expires (b b' f f' : List ℕ) (m c : ℕ) (e e' : Delay) (k : Key) (n now : ℕ) (q r : Progress) : Type 0 where
  pub most : q.noted ≤ c → r.noted ≤ c
  pub goes : (st : State) (xs : List Slot) → Around b f m e st xs → c ≡ length xs → owner_is n (at k st.table).owner ≡ true → (q.spent ≡ true → Spent st.table)
      → ExpiredTo b' f' m e' st xs k n now q r
