-- The request machine: forget_known and disconnected.
use Rattle.std.specs.Prelude.{ℕ, Bool, true, false, ◌&&◌, ◌||◌, List, [], ◌∷◌, ◌++◌, ltb, eqb, if◌then◌else◌}
use Rattle.std.proofs.Math.Option.{Option, none, some}
use Rattle.ident.specs.Number.{Key, place}
use Rattle.machine.specs.Limits.{Limits}
use Rattle.machine.specs.State.{Candidate, Owner, Request, Table, owner_is, enqueued_in, is_some}
use Rattle.machine.specs.Table.{at, has}
use Rattle.machine.specs.Announce.{cut}
use Rattle.machine.specs.Fail.{failed, forget, Listed, nothing, announce_parents, parents_for}

-- ---- forget_known: a package that is Enqueued, or claimed or solicited by a live owner, is kept

abbrev pub alive : ℕ → Option Owner → Bool
alive now none = false
alive now (some o) = ltb now o.deadline

unfoldable pub guarded : ℕ → Request → Bool
guarded now r = enqueued_in r.«package» || ((is_some r.«package» || r.info) && alive now r.owner)

abbrev pub owner_parents : Limits → ℕ → Option Owner → Request → Table → Table
owner_parents m now none r t = t
owner_parents m now (some o) r t = (announce_parents m o.connection now (parents_for o.connection r) t).table

unfoldable pub forget_known : Limits → Key → ℕ → Table → Table
forget_known m k now t = if guarded now (at k t) then t else forget k (owner_parents m now (at k t).owner (at k t) t)

-- ---- disconnected

abbrev pub is_empty : List ℕ → Bool
is_empty [] = true
is_empty (h ∷ hs) = false

-- the keys under which a connection is a candidate
unfoldable pub keys_of : ℕ → Table → List Key
keys_of n [] = []
keys_of n (r ∷ t) = if has n r.candidates then r.key ∷ keys_of n t else keys_of n t

-- the parents are announced for each candidate that is left
unfoldable pub announce_each : Limits → ℕ → List ℕ → List Candidate → Table → Listed
announce_each m now hs [] t = nothing t
announce_each m now hs (c ∷ cs) t =
    let a = announce_parents m c.connection now hs t in
    let rest = announce_each m now hs cs a.table in
    record { keys = a.keys ++ rest.keys; table = rest.table }

-- one of those keys: an owner fails there (an Enqueued one stays), any other candidate just goes
unfoldable pub drop_at_key : Limits → ℕ → ℕ → Key → Table → Listed
drop_at_key m n now k t =
    if owner_is n (at k t).owner then
    (let hs = parents_for n (at k t) in
    let t' = (failed k n now t).table in
    announce_each m now hs (if is_empty hs then [] else (at k t').candidates) t')
    else nothing (cut k n t)

unfoldable pub drop_each : Limits → ℕ → ℕ → List Key → Table → Listed
drop_each m n now [] t = nothing t
drop_each m n now (k ∷ ks) t =
    let a = drop_at_key m n now k t in
    let rest = drop_each m n now ks a.table in
    record { keys = a.keys ++ rest.keys; table = rest.table }

-- keys in order, repeats dropped
unfoldable pub insert_key : Key → List Key → List Key
insert_key k [] = k ∷ []
insert_key k (x ∷ l) =
    if ltb (place k) (place x) then k ∷ (x ∷ l)
    else if eqb (place k) (place x) then x ∷ l
    else x ∷ insert_key k l

unfoldable pub sort_keys : List Key → List Key
sort_keys [] = []
sort_keys (k ∷ l) = insert_key k (sort_keys l)

pub record Gone : Type 0 where
  pub own : List Key
  pub parents : List Key
  pub table : Table

unfoldable pub disconnected : Limits → ℕ → ℕ → Table → Gone
disconnected m n now t =
    let a = drop_each m n now (keys_of n t) t in
    record { own = keys_of n t; parents = sort_keys a.keys; table = a.table }
