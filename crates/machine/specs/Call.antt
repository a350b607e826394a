-- The calls, what each names, and the refusals (document 01, "Refusals and replies", "Buffer needs in entries").
use Rattle.std.specs.Prelude.{ℕ, ◌+◌, ◌*◌, min, Bool, false, not, ◌&&◌, ◌||◌, List, [], ◌∷◌, ltb, leb, eqb, length, if◌then◌else◌}
use Rattle.std.proofs.Math.Option.{Option, none, some}
use Rattle.ident.specs.Number.{Key, Item}
use Rattle.machine.specs.Limits.{need, max_announcements, max_places, max_peer_announcements, max_known_checks, max_request_checks, max_parents, max_asked_hashes, latest_clock}
use Rattle.machine.specs.State.{Candidate, State, limits_of, Entry}
use Rattle.machine.specs.Table.{places_held}
use Rattle.machine.specs.Package.{solicit}
use Rattle.machine.specs.Claim.{elem}
use Rattle.machine.specs.Wrapper.{Offer}
use Rattle.machine.specs.Owners.{ascending}
use Rattle.machine.specs.Listing.{listing, read_listing}
use Rattle.machine.specs.SoundTest.{is_sound}

-- an answer buffer: its bytes
abbrev pub Buffer : Type 0
Buffer = List ℕ

-- A call that wants a sound store, with its arguments, lists by content, and its answer buffer where it has one.
pub data Ask : Type 0 where
  Announce : (c : Candidate) → Ask
  RequestParent : (c : Candidate) → Ask
  Failed : (k : Key) (connection now : ℕ) → Ask
  Unclaim : (k : Key) (connection : ℕ) → Ask
  SolicitPackageInfo : (connection hash : ℕ) (parents : List ℕ) (now : ℕ) → Ask
  ClaimPackage : (connection hash combined : ℕ) (wtxids : List ℕ) (now : ℕ) → Ask
  BeginPackageResolution : (connection hash combined : ℕ) (wtxids : List ℕ) (now : ℕ) → Ask
  AnnounceParents : (connection : ℕ) (parents : List ℕ) (now : ℕ) (b : Buffer) → Ask
  FailedPackageClaims : (connection : ℕ) (combined : List ℕ) (now : ℕ) (b : Buffer) → Ask
  Plan : (now : ℕ) (given : Option (List Key)) (b : Buffer) → Ask
  Claim : (now : ℕ) (checked : List Entry) (b : Buffer) → Ask
  Sweep : (b : Buffer) → Ask
  Disconnected : (connection now : ℕ) (b : Buffer) → Ask
  ReleasePackage : (connection hash now : ℕ) (b : Buffer) → Ask
  TeardownPackageClaims : (now : ℕ) → Ask
  Forget : (k : Key) → Ask
  ForgetKnown : (k : Key) (now : ℕ) → Ask
  FailedWithParents : (k : Key) (connection now : ℕ) (b : Buffer) → Ask
  FailedPackageInfo : (k : Key) (connection now : ℕ) → Ask
  PackageInfoOwner : (k : Key) (now : ℕ) → Ask
  AnnounceTransactions : (connection now : ℕ) (preferred wtxid_source : Bool) (offers : List Offer) → Ask
  TransactionResponseCompleted : (connection x w now : ℕ) → Ask
  TransactionNotFound : (connection : ℕ) (items : List Item) (now : ℕ) (b : Buffer) → Ask
  PollGate : (now : ℕ) → Ask
  Arrange : (witnesses : List ℕ) (taken : List Entry) (b : Buffer) → Ask
  Sum : Ask
  OwnersOf : (hashes : List ℕ) (b : Buffer) → Ask
  Save : (b : Buffer) → Ask

-- "In the list stand opening and every other call here that takes a store"
pub data Call : Type 0 where
  Open : (L Q : ℕ) → Call
  Restore : (text : List ℕ) → Call
  On : Ask → Call

-- ---- what the refusals 4 to 7 and 13 look at

pub record Named : Type 0 where
  pub connections : List ℕ
  pub clocks : List ℕ
  pub parents : ℕ
  pub hashes : List ℕ
  pub buffer : Buffer
  pub needs : ℕ

-- bytes of a key, of an entry and of an owner in a buffer: 5, 14 and 3 words
abbrev pub key_bytes : ℕ
key_bytes = 40

abbrev pub entry_bytes : ℕ
entry_bytes = 112

abbrev pub owner_bytes : ℕ
owner_bytes = 24

-- a call with no answer buffer
abbrev pub plain : List ℕ → List ℕ → ℕ → Named
plain ns ts p = record { connections = ns; clocks = ts; parents = p; hashes = []; buffer = []; needs = 0 }

-- one whose answer is a list of keys, or of entries: so many at the most
abbrev pub keyed : List ℕ → List ℕ → ℕ → Buffer → ℕ → Named
keyed ns ts p b n = record { connections = ns; clocks = ts; parents = p; hashes = []; buffer = b; needs = key_bytes * n }

abbrev pub entered : List ℕ → List ℕ → Buffer → ℕ → Named
entered ns ts b n = record { connections = ns; clocks = ts; parents = 0; hashes = []; buffer = b; needs = entry_bytes * n }

-- one whose answer is a listing: "saving needs a buffer of its length"
abbrev pub saving : Buffer → State → Named
saving b s = record { connections = []; clocks = []; parents = 0; hashes = []; buffer = b; needs = length (listing s) }

-- "Buffer needs in entries: plan min(1,025, L); sweep min(1,024, L); claim the checked length; disconnected
-- min(5,000, L) + 100 × Q; package claims 101 × Q; not-found its items + 100 × Q; arranging the taken length; any other key
-- list 101." Document 02, request e: "The buffer's need is the list's length in entries."
unfoldable pub named : Ask → State → Named
named (Announce c) s = plain (c.connection ∷ []) [] 0
named (RequestParent c) s = plain (c.connection ∷ []) [] 0
named (Failed k n now) s = plain (n ∷ []) (now ∷ []) 0
named (Unclaim k n) s = plain (n ∷ []) [] 0
named (SolicitPackageInfo n h hs now) s = plain (n ∷ []) (now ∷ []) (length hs)
named (ClaimPackage n h c ws now) s = plain (n ∷ []) (now ∷ []) 0
named (BeginPackageResolution n h c ws now) s = plain (n ∷ []) (now ∷ []) 0
named (AnnounceParents n hs now b) s = keyed (n ∷ []) (now ∷ []) (length hs) b (max_parents + 1)
named (FailedPackageClaims n cs now b) s = keyed (n ∷ []) (now ∷ []) 0 b ((max_parents + 1) * s.places)
named (Plan now ks b) s = entered [] (now ∷ []) b (min (max_request_checks + 1) s.limit)
named (Claim now l b) s = entered [] (now ∷ []) b (length l)
named (Sweep b) s = keyed [] [] 0 b (min max_known_checks s.limit)
named (Disconnected n now b) s = keyed (n ∷ []) (now ∷ []) 0 b (min max_peer_announcements s.limit + max_parents * s.places)
named (ReleasePackage n h now b) s = keyed (n ∷ []) (now ∷ []) 0 b (max_parents + 1)
named (TeardownPackageClaims now) s = plain [] (now ∷ []) 0
named (Forget k) s = plain [] [] 0
named (ForgetKnown k now) s = plain [] (now ∷ []) 0
named (FailedWithParents k n now b) s = keyed (n ∷ []) (now ∷ []) 0 b (max_parents + 1)
named (FailedPackageInfo k n now) s = plain (n ∷ []) (now ∷ []) 0
named (PackageInfoOwner k now) s = plain [] (now ∷ []) 0
named (AnnounceTransactions n now p w os) s = plain (n ∷ []) (now ∷ []) 0
named (TransactionResponseCompleted n x w now) s = plain (n ∷ []) (now ∷ []) 0
named (TransactionNotFound n l now b) s = keyed (n ∷ []) (now ∷ []) 0 b (length l + max_parents * s.places)
named (PollGate now) s = plain [] (now ∷ []) 0
named (Arrange ws l b) s = entered ws [] b (length l)
named Sum s = plain [] [] 0
named (OwnersOf hs b) s = record { connections = []; clocks = []; parents = 0; hashes = hs; buffer = b; needs = owner_bytes * length hs }
named (Save b) s = saving b s

unfoldable pub any_late : List ℕ → Bool
any_late [] = false
any_late (now ∷ l) = ltb latest_clock now || any_late l

-- ---- what kind of call it is, where something is said of one kind alone

pub data Role : Type 0 where
  AsSolicitation : (connection hash : ℕ) (parents : List ℕ) (now : ℕ) → Role
  AsSweep : Role
  AsOther : Role

abbrev pub role_of : Ask → Role
role_of (Announce c) = AsOther
role_of (RequestParent c) = AsOther
role_of (Failed k n now) = AsOther
role_of (Unclaim k n) = AsOther
role_of (SolicitPackageInfo n h hs now) = AsSolicitation n h hs now
role_of (ClaimPackage n h c ws now) = AsOther
role_of (BeginPackageResolution n h c ws now) = AsOther
role_of (AnnounceParents n hs now b) = AsOther
role_of (FailedPackageClaims n cs now b) = AsOther
role_of (Plan now ks b) = AsOther
role_of (Claim now l b) = AsOther
role_of (Sweep b) = AsSweep
role_of (Disconnected n now b) = AsOther
role_of (ReleasePackage n h now b) = AsOther
role_of (TeardownPackageClaims now) = AsOther
role_of (Forget k) = AsOther
role_of (ForgetKnown k now) = AsOther
role_of (FailedWithParents k n now b) = AsOther
role_of (FailedPackageInfo k n now) = AsOther
role_of (PackageInfoOwner k now) = AsOther
role_of (AnnounceTransactions n now p w os) = AsOther
role_of (TransactionResponseCompleted n x w now) = AsOther
role_of (TransactionNotFound n l now b) = AsOther
role_of (PollGate now) = AsOther
role_of (Arrange ws l b) = AsOther
role_of Sum = AsOther
role_of (OwnersOf hs b) = AsOther
role_of (Save b) = AsOther

-- "a solicitation that would reply 1"
abbrev pub place_taken : Role → State → Bool
place_taken (AsSolicitation n h hs now) s = (solicit (limits_of s) n h hs now s.table).reply
place_taken AsSweep s = false
place_taken AsOther s = false

unfoldable pub takes_place : Ask → State → Bool
takes_place a s = place_taken (role_of a) s

-- ---- the table of refusals; 0: carried out

abbrev pub sizes_taken : ℕ → ℕ → Bool
sizes_taken L Q = (leb 1 L && leb L max_announcements) && (leb 1 Q && leb Q max_places)

-- "Opening tests 2, then 1." The store has n bytes.
unfoldable pub opening_refusal : ℕ → ℕ → ℕ → ℕ
opening_refusal n L Q = if sizes_taken L Q then (if ltb n (need L Q) then 1 else 0) else 2

-- What is tested right before the buffer: its number, or 0 if it has nothing against the call. "Hashes that are too many or not strictly ascending
-- get 13, after the test of the store and before the buffer's" (document 02, request e).
abbrev pub wrong_hashes : List ℕ → Bool
wrong_hashes hs = ltb max_asked_hashes (length hs) || not (ascending hs)

unfoldable pub late : Ask → State → ℕ
late a s = if wrong_hashes (named a s).hashes then 13 else 0

-- A text that lists no state gets 11, one that lists an unsound state 12; "a receiving store shorter than the state's need gets 1 after those, and
-- its old bytes are not tested". The store has n bytes.
unfoldable pub restore_refusal : ℕ → Option State → ℕ
restore_refusal n none = 11
restore_refusal n (some t) = if is_sound t then (if ltb n (need t.limit t.places) then 1 else 0) else 12

-- "Other calls test 3 to 8 in turn." sound: the store's bytes write a sound state, which is s.
unfoldable pub ask_refusal : Bool → Ask → State → ℕ
ask_refusal sound a s =
    if not sound then 3
    else if elem 0 (named a s).connections then 4
    else if any_late (named a s).clocks then 5
    else if ltb max_parents (named a s).parents then 6
    else if not (eqb (late a s) 0) then late a s
    else if ltb (length (named a s).buffer) (named a s).needs then 7
    else if takes_place a s && leb s.places (places_held s.table) then 8
    else 0

unfoldable pub refusal : ℕ → Bool → Call → State → ℕ
refusal n sound (Open L Q) s = opening_refusal n L Q
refusal n sound (Restore x) s = restore_refusal n (read_listing x)
refusal n sound (On a) s = ask_refusal sound a s
