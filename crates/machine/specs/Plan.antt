-- The request machine: plan.
use Rattle.std.specs.Prelude.{ℕ, ◌+◌, suc, Bool, true, false, not, ◌&&◌, List, [], ◌∷◌, ◌++◌, ltb, leb, eqb, length, if◌then◌else◌}
use Rattle.std.proofs.Math.Option.{Option, none, some}
use Rattle.ident.specs.Number.{Key, txid, wtxid}
use Rattle.machine.specs.Limits.{Limits, max_in_flight, max_request_checks}
use Rattle.machine.specs.State.{Candidate, Owner, Request, Table, State, limits_of, Entry, on_table, with_ready_cursor, is_none}
use Rattle.machine.specs.Table.{at, keys, one, owned_by, owned_at}
use Rattle.machine.specs.Fail.{failed, Listed, nothing, announce_parents, parents_for}
use Rattle.machine.specs.Sweep.{round}
use Rattle.machine.specs.Later.{next_look}

-- ---- the candidate that a plan chooses for a hash

-- those of a plan's choices that are one connection's, and those at one hash
unfoldable pub chosen_by : ℕ → List Entry → ℕ
chosen_by n [] = 0
chosen_by n (a ∷ l) = one (eqb a.candidate.connection n) + chosen_by n l

unfoldable pub chosen_at : ℕ → List Entry → ℕ
chosen_at h [] = 0
chosen_at h (a ∷ l) = one (eqb a.key.hash h) + chosen_at h l

-- "ready, its connection below 100 counting this plan's"
unfoldable pub able : ℕ → Table → List Entry → Candidate → Bool
able now t l c = leb c.ready now && ltb (owned_by c.connection t + chosen_by c.connection l) max_in_flight

-- a comes before b by "(unpreferred, priority)"
unfoldable pub sooner : Candidate → Candidate → Bool
sooner a b =
    if a.preferred && not b.preferred then true
    else if b.preferred && not a.preferred then false
    else ltb a.priority b.priority

-- the sooner of two, the first where neither is
unfoldable pub better : Entry → Option Entry → Option Entry
better a none = some a
better a (some b) = some (if sooner b.candidate a.candidate then b else a)

unfoldable pub or_else : Option Entry → Option Entry → Option Entry
or_else none y = y
or_else (some a) y = better a y

-- the least of one request's able candidates, by arrival where equal
unfoldable pub least_in : (Candidate → Bool) → Key → List Candidate → Option Entry
least_in p k [] = none
least_in p k (c ∷ cs) = if p c then better (record { key = k; candidate = c }) (least_in p k cs) else least_in p k cs

unfoldable pub least_at : (Candidate → Bool) → Key → Table → Option Entry
least_at p k t = if is_none (at k t).owner then least_in p k (at k t).candidates else none

-- "the least (unpreferred, priority, kind, arrival) over both kinds"
unfoldable pub choice : ℕ → Table → List Entry → Key → Option Entry
choice now t l k = or_else (least_at (able now t l) (txid k.hash) t) (least_at (able now t l) (wtxid k.hash) t)

-- ---- considering keys

pub record Scan : Type 0 where
  pub chosen : List Entry
  pub considered : ℕ
  pub last : Option Key

abbrev pub start : Scan
start = record { chosen = []; considered = 0; last = none }

abbrev pub add : Option Entry → List Entry → List Entry
add none l = l
add (some a) l = l ++ (a ∷ [])

-- "A key whose hash is unowned and not yet selected by this plan yields .."
unfoldable pub consider : ℕ → Table → Key → Scan → Scan
consider now t k s = record {
  chosen = if eqb (owned_at k.hash t + chosen_at k.hash s.chosen) 0 then add (choice now t s.chosen k) s.chosen else s.chosen;
  considered = suc s.considered;
  last = some k;
}

-- "After a key, a phase stops at 1,024 selected"
unfoldable pub phase : ℕ → Table → List Key → Scan → Scan
phase now t [] s = s
phase now t (k ∷ ks) s =
    let s' = consider now t k s in
    if leb max_request_checks (length s'.chosen) then s' else phase now t ks s'

-- ---- owners whose time is over

pub record Due : Type 0 where
  pub key : Key
  pub connection : ℕ

-- "each owner with now >= deadline, ascending"
abbrev pub due_of : ℕ → Key → Option Owner → List Due
due_of now k none = []
due_of now k (some o) = if leb o.deadline now then record { key = k; connection = o.connection } ∷ [] else []

unfoldable pub due : ℕ → Table → List Due
due now [] = []
due now (r ∷ t) = due_of now r.key r.owner ++ due now t

-- "fails and its parents are announced; an Enqueued one stays, its parents announced all the same"
unfoldable pub expire : Limits → ℕ → List Due → Table → Listed
expire m now [] t = nothing t
expire m now (d ∷ ds) t =
    let ps = parents_for d.connection (at d.key t) in
    let a = announce_parents m d.connection now ps (failed d.key d.connection now t).table in
    let rest = expire m now ds a.table in
    record { keys = a.keys ++ rest.keys; table = rest.table }

-- ---- "Stable sort by priority"

unfoldable pub insert_by_priority : Entry → List Entry → List Entry
insert_by_priority a [] = a ∷ []
insert_by_priority a (b ∷ l) = if leb a.candidate.priority b.candidate.priority then a ∷ (b ∷ l) else b ∷ insert_by_priority a l

unfoldable pub sort_by_priority : List Entry → List Entry
sort_by_priority [] = []
sort_by_priority (a ∷ l) = insert_by_priority a (sort_by_priority l)

-- ---- plan

-- "those parents, then the given keys, or else all keys after the ready cursor and round to it"
abbrev pub asked_keys : Option (List Key) → Option Key → Table → List Key
asked_keys none c t = round c (keys t)
asked_keys (some ks) c t = ks

-- "If given keys are absent the ready cursor becomes the last key considered, or none."
abbrev pub cursor_after : Option (List Key) → Option Key → Option Key → Option Key
cursor_after none last old = last
cursor_after (some ks) last old = old

-- "The reply carries the count of keys considered, repeats counted"; document 02, request c: it ends in the time of the next look
pub record Planned : Type 0 where
  pub entries : List Entry
  pub considered : ℕ
  pub next : Option ℕ
  pub state : State

-- the owners that are due, failed
abbrev pub expired : ℕ → State → Listed
expired now s = expire (limits_of s) now (due now s.table) s.table

-- "The parents are one phase, all the rest a second."
abbrev pub scanned : ℕ → Option (List Key) → State → Scan
scanned now asked s =
    let e = expired now s in
    phase now e.table (asked_keys asked s.ready_cursor e.table) (phase now e.table e.keys start)

-- next: "in the state after the plan", whose table is the one after expiry, since a plan owns nothing
unfoldable pub plan : ℕ → Option (List Key) → State → Planned
plan now asked s =
    let b = scanned now asked s in
    record {
      entries = sort_by_priority b.chosen;
      considered = b.considered;
      next = next_look now (expired now s).table;
      state = with_ready_cursor (cursor_after asked b.last s.ready_cursor) (on_table (expired now s).table s);
    }
