-- Demand 3: one claim about a whole list of calls (document 01, "Demand 3 is one claim about a whole list").
use Rattle.std.specs.Prelude.{ℕ, ◌+◌, ◌-◌, ◌/◌, ◌≤◌, ◌<◌, ◌≡◌, Bool, true, false, ◌||◌, List, [], ◌∷◌, ◌++◌, map, eqb, length, if◌then◌else◌}
use Rattle.ident.specs.Number.{Key, place}
use Rattle.machine.specs.Limits.{max_alternates, max_peer_announcements, max_in_flight, max_known_checks}
use Rattle.machine.specs.State.{Request, State}
use Rattle.machine.specs.Table.{keys, held, held_by, held_at, owned_by, owned_at}
use Rattle.machine.specs.Sound.{All, OwnerFits, Sound}
use Rattle.machine.specs.Call.{Ask, Role, AsSolicitation, AsSweep, AsOther, role_of, Call, Open, On, refusal, Restore}
use Rattle.machine.specs.Step.{Reply, Refused, Number, Keys, Left, Entries, Chosen, Summed, Owned, step, Saved}
use Rattle.machine.specs.Typed.{CallTyped, Each}

-- ---- a list of calls on one store of n bytes: each gets the state that the last one left

unfoldable pub run : ℕ → List Call → State → State
run n [] s = s
run n (c ∷ cs) s = run n cs (step n c s).state

abbrev pub carried_out : ℕ → Call → State → Bool
carried_out n c s = eqb (refusal n true c s) 0

-- ---- the carried-out sweeps of a list

-- "Held at a sweep: having a request just before it; handed out: in its reply."
pub record Swept : Type 0 where
  pub held : List Key
  pub out : List Key

abbrev pub sweep_role : Role → Bool
sweep_role (AsSolicitation n h hs now) = false
sweep_role AsSweep = true
sweep_role AsOther = false

abbrev pub is_sweep : Ask → Bool
is_sweep a = sweep_role (role_of a)

abbrev pub sweeping : Call → Bool
sweeping (Open L Q) = false
sweeping (Restore x) = false
sweeping (On a) = is_sweep a

-- "the wait for a sweep is counted afresh from a reading, as from a reopening"
abbrev pub afresh : Call → Bool
afresh (Open L Q) = true
afresh (Restore x) = true
afresh (On a) = false

-- the keys in a reply
abbrev pub keys_in : Reply → List Key
keys_in (Refused n) = []
keys_in (Number n) = []
keys_in (Keys ks) = ks
keys_in (Left own parents) = own ++ parents
keys_in (Entries l) = []
keys_in (Chosen n l x) = []
keys_in (Summed s) = []
keys_in (Owned n l) = []
keys_in (Saved t) = []

abbrev pub swept_by : ℕ → Call → State → Swept
swept_by n c s = record { held = keys s.table; out = keys_in (step n c s).reply }

-- those that a list carries out, in order
unfoldable pub sweeps_of : ℕ → List Call → State → List Swept
sweeps_of n [] s = []
sweeps_of n (c ∷ cs) s =
    let rest = sweeps_of n cs (step n c s).state in
    if sweeping c then (if carried_out n c s then swept_by n c s ∷ rest else rest) else rest

-- "with no carried-out opening between", and no carried-out reading of a listing
abbrev pub Unbroken : ℕ → List Call → State → Type 0
Unbroken n [] s = Unit {0}
Unbroken n (c ∷ cs) s = (afresh c ≡ true → carried_out n c s ≡ false) × Unbroken n cs (step n c s).state

-- ---- keys in lists

unfoldable pub mem : Key → List Key → Bool
mem k [] = false
mem k (x ∷ l) = eqb (place x) (place k) || mem k l

unfoldable pub less : Key → List Key → List Key
less k [] = []
less k (x ∷ l) = if eqb (place x) (place k) then less k l else x ∷ less k l

-- no key twice
unfoldable pub unique : List Key → List Key
unique [] = []
unique (x ∷ l) = x ∷ less x (unique l)

unfoldable pub flat : List (List Key) → List Key
flat [] = []
flat (l ∷ ls) = l ++ flat ls

-- "N different keys being held at one or more of them"
abbrev pub different_keys : List Swept → ℕ
different_keys ws = length (unique (flat (map (λ w. w.held) ws)))

-- "each key held at all m"
abbrev pub HeldAtAll : Key → List Swept → Type 0
HeldAtAll k [] = Unit {0}
HeldAtAll k (w ∷ ws) = (mem k w.held ≡ true) × HeldAtAll k ws

-- "is handed out by one of them"
abbrev pub HandedOut : Key → List Swept → Type 0
HandedOut k ws = mem k (flat (map (λ w. w.out) ws)) ≡ true

-- "for any m > 0 successive carried-out sweeps with no carried-out opening" or reading "between": whatever stretch `part` of the list they
-- stand in, "each key held at all m is handed out by one of them if m is at least floor((N − 1) / 1,024) + 1"
abbrev pub Fair : ℕ → State → List Call → Type 0
Fair n first calls =
    (pre part post : List Call) → calls ≡ pre ++ (part ++ post) → Unbroken n part (run n pre first) → (k : Key)
    → 0 < length (sweeps_of n part (run n pre first))
    → HeldAtAll k (sweeps_of n part (run n pre first))
    → (different_keys (sweeps_of n part (run n pre first)) - 1) / max_known_checks + 1 ≤ length (sweeps_of n part (run n pre first))
    → HandedOut k (sweeps_of n part (run n pre first))

-- ---- the bounds of one state, in demand 3's words

pub record Bounds (s : State) : Type 0 where
  -- "no connection owns more than 100 requests"
  pub owned : (n : ℕ) → owned_by n s.table ≤ max_in_flight
  -- "or has more than 5,000 announcements"
  pub announced : (n : ℕ) → held_by n s.table ≤ max_peer_announcements
  -- "no hash is owned under both kinds"
  pub one_kind : (h : ℕ) → owned_at h s.table ≤ 1
  -- "or has more than eight candidates"
  pub eight : (h : ℕ) → held_at h s.table ≤ max_alternates
  -- "at most L announcements are held"
  pub fits : held s.table ≤ s.limit
  -- "every owner is a candidate of its request"
  pub candidates : All (λ (r : Request). OwnerFits r.owner r.candidates) s.table

-- "For every list of calls on one store, refused ones included, from an empty tracker or any sound store"
abbrev pub Demand3 : Type 0
Demand3 = (n : ℕ) (first : State) (calls : List Call) → Sound first → Each CallTyped calls → Bounds (run n calls first) × Fair n first calls
