-- What a call does: reply, answer buffer, next state.
use Rattle.std.specs.Prelude.{ℕ, suc, Bool, true, false, List, [], ◌∷◌, ◌++◌, eqb, length, drop, if◌then◌else◌}
use Rattle.std.proofs.Math.Option.{Option, none, some}
use Rattle.ident.specs.declared.Kind.{Kind}
use Rattle.ident.specs.declared.Kind.TheVariants.{Txid, Wtxid}
use Rattle.ident.specs.Number.{Key, type_of}
pub use Rattle.ident.specs.Number.{kind_number}
use Rattle.words.specs.Words.{digits, bytes_of}
use Rattle.machine.specs.State.{Candidate, State, limits_of, Entry, Answer, on_table, with_next_poll, with_known_cursor}
use Rattle.machine.specs.Table.{keys, one}
use Rattle.machine.specs.Announce.{announce, request_parent}
use Rattle.machine.specs.Fail.{failed, unclaim, forget, Listed, announce_parents}
use Rattle.machine.specs.Package.{solicit, claim_package, begin_resolution, failed_with_parents, failed_package_info, package_info_owner, release_package, failed_package_claims, Torn, teardown}
use Rattle.machine.specs.Leave.{forget_known, Gone, disconnected}
use Rattle.machine.specs.Sweep.{last_of, handed}
use Rattle.machine.specs.Plan.{Planned, plan}
use Rattle.machine.specs.Claim.{Taken, claim, arrange}
use Rattle.machine.specs.Wrapper.{announce_transactions, response_completed, not_found, due_at, next_poll_after, Sums, sum}
use Rattle.machine.specs.Owners.{Holding, holdings, passed}
use Rattle.machine.specs.Call.{Buffer, Ask, Announce, RequestParent, Failed, Unclaim, SolicitPackageInfo, ClaimPackage, BeginPackageResolution, AnnounceParents, FailedPackageClaims, Plan}
use Rattle.machine.specs.Call.{Claim, Sweep, Disconnected, ReleasePackage, TeardownPackageClaims, Forget, ForgetKnown, FailedWithParents, FailedPackageInfo, PackageInfoOwner}
use Rattle.machine.specs.Call.{AnnounceTransactions, TransactionResponseCompleted, TransactionNotFound, PollGate, Arrange, Sum, OwnersOf, Call, Open, On, Named, named, refusal, Save, Restore}
use Rattle.machine.specs.Listing.{listing, read_listing}

-- A reply, in document 01's numbers and values.
pub data Reply : Type 0 where
  Refused : (number : ℕ) → Reply
  Number : (n : ℕ) → Reply
  Keys : (ks : List Key) → Reply
  Left : (own parents : List Key) → Reply
  Entries : (l : List Entry) → Reply
  Chosen : (considered : ℕ) (l : List Entry) (next : Option ℕ) → Reply
  Summed : (s : Sums) → Reply
  Owned : (passed : ℕ) (l : List (Option Holding)) → Reply
  Saved : (text : List ℕ) → Reply

pub record Result : Type 0 where
  pub reply : Reply
  pub state : State

-- ---- replies from what the definitions answer

-- "A reply of 0 is the Rust's `false`"; 1 is its `true`
abbrev pub answered : Answer → State → Result
answered a s = record { reply = Number (one a.reply); state = on_table a.table s }

abbrev pub listed : Listed → State → Result
listed l s = record { reply = Keys l.keys; state = on_table l.table s }

-- "Where the Rust returns nothing, the reply is 1."
abbrev pub silent : State → Result
silent s = record { reply = Number 1; state = s }

abbrev pub planned : Planned → Result
planned p = record { reply = Chosen p.considered p.entries p.next; state = p.state }

abbrev pub taken : Taken → State → Result
taken a s = record { reply = Entries a.entries; state = on_table a.table s }

abbrev pub swept : List Key → State → Result
swept ks s = record { reply = Keys ks; state = with_known_cursor (last_of ks) s }

abbrev pub departed : Gone → State → Result
departed g s = record { reply = Left g.own g.parents; state = on_table g.table s }

abbrev pub torn : Torn → State → Result
torn a s = record { reply = Number a.cleared; state = on_table a.table s }

-- ---- a call that is carried out on a state

unfoldable pub perform : Ask → State → Result
perform (Announce c) s = answered (announce (limits_of s) c s.table) s
perform (RequestParent c) s = answered (request_parent (limits_of s) c s.table) s
perform (Failed k n now) s = answered (failed k n now s.table) s
perform (Unclaim k n) s = silent (on_table (unclaim k n s.table) s)
perform (SolicitPackageInfo n h hs now) s = answered (solicit (limits_of s) n h hs now s.table) s
perform (ClaimPackage n h c ws now) s = answered (claim_package n h c ws now s.table) s
perform (BeginPackageResolution n h c ws now) s = answered (begin_resolution n h c ws now s.table) s
perform (AnnounceParents n hs now b) s = listed (announce_parents (limits_of s) n now hs s.table) s
perform (FailedPackageClaims n cs now b) s = listed (failed_package_claims (limits_of s) n cs now s.table) s
perform (Plan now ks b) s = planned (plan now ks s)
perform (Claim now l b) s = taken (claim now l s.table) s
perform (Sweep b) s = swept (handed s.known_cursor (keys s.table)) s
perform (Disconnected n now b) s = departed (disconnected (limits_of s) n now s.table) s
perform (ReleasePackage n h now b) s = listed (release_package (limits_of s) n h now s.table) s
perform (TeardownPackageClaims now) s = torn (teardown now s.table) s
perform (Forget k) s = silent (on_table (forget k s.table) s)
perform (ForgetKnown k now) s = silent (on_table (forget_known (limits_of s) k now s.table) s)
perform (FailedWithParents k n now b) s = listed (failed_with_parents (limits_of s) k n now s.table) s
perform (FailedPackageInfo k n now) s = answered (failed_package_info k n now s.table) s
perform (PackageInfoOwner k now) s = record { reply = Number (package_info_owner k now s.table); state = s }
perform (AnnounceTransactions n now p w os) s = silent (on_table (announce_transactions (limits_of s) n now p w os s.table) s)
perform (TransactionResponseCompleted n x w now) s = silent (on_table (response_completed n x w now s.table) s)
perform (TransactionNotFound n l now b) s = listed (not_found (limits_of s) n now l s.table) s
perform (PollGate now) s = record { reply = Number (one (due_at now s.next_poll)); state = with_next_poll (next_poll_after now s.next_poll) s }
perform (Arrange ws l b) s = record { reply = Entries (arrange ws l s.table); state = s }
perform Sum s = record { reply = Summed (sum s); state = s }
perform (OwnersOf hs b) s = record { reply = Owned (passed hs s.table) (holdings hs s.table); state = s }
perform (Save b) s = record { reply = Saved (listing s); state = s }

-- "An opened store" is an empty tracker.
abbrev pub empty : ℕ → ℕ → State
empty L Q = record { limit = L; places = Q; table = []; next_poll = none; known_cursor = none; ready_cursor = none }

-- "Reading a listing gives the store bytes that were saved": the state that the text lists
abbrev pub restored : Option State → State → State
restored none s = s
restored (some t) s = t

unfoldable pub carry_out : Call → State → Result
carry_out (Open L Q) s = silent (empty L Q)
carry_out (Restore x) s = silent (restored (read_listing x) s)
carry_out (On a) s = perform a s

-- ---- answer buffers: a key is 5 words, an entry 14, an owner 3

-- a hash is 32 bytes, "byte 31 the most significant"
abbrev pub hash_bytes : ℕ → List ℕ
hash_bytes h = digits 256 32 h

abbrev pub key_answer : Key → List ℕ
key_answer k = bytes_of (kind_number k.kind ∷ []) ++ hash_bytes k.hash

-- key, connection, item type, item hash, ready, preferred, priority
abbrev pub candidate_answer : Candidate → List ℕ
candidate_answer c =
    bytes_of (c.connection ∷ type_of c.item.kind ∷ []) ++ (hash_bytes c.item.hash ++ bytes_of (c.ready ∷ one c.preferred ∷ c.priority ∷ []))

abbrev pub entry_answer : Entry → List ℕ
entry_answer a = key_answer a.key ++ candidate_answer a.candidate

unfoldable pub keys_answer : List Key → List ℕ
keys_answer [] = []
keys_answer (k ∷ ks) = key_answer k ++ keys_answer ks

unfoldable pub entries_answer : List Entry → List ℕ
entries_answer [] = []
entries_answer (a ∷ l) = entry_answer a ++ entries_answer l

-- 0 none, 1 Txid, 2 Wtxid; then connection and deadline. The hash is not repeated: answers stand in the order of the list.
abbrev pub holding_words : Option Holding → List ℕ
holding_words none = 0 ∷ 0 ∷ 0 ∷ []
holding_words (some a) = suc (kind_number a.key.kind) ∷ a.connection ∷ a.deadline ∷ []

abbrev pub holding_answer : Option Holding → List ℕ
holding_answer o = bytes_of (holding_words o)

unfoldable pub holdings_answer : List (Option Holding) → List ℕ
holdings_answer [] = []
holdings_answer (o ∷ l) = holding_answer o ++ holdings_answer l

-- the bytes that a reply puts into the buffer
abbrev pub answer_bytes : Reply → List ℕ
answer_bytes (Refused n) = []
answer_bytes (Number n) = []
answer_bytes (Keys ks) = keys_answer ks
answer_bytes (Left own parents) = keys_answer (own ++ parents)
answer_bytes (Entries l) = entries_answer l
answer_bytes (Chosen n l x) = entries_answer l
answer_bytes (Summed s) = []
answer_bytes (Owned n l) = holdings_answer l
answer_bytes (Saved t) = t

-- "bytes .. past the reply stay"
unfoldable pub written : List ℕ → Buffer → Buffer
written x b = x ++ drop (length x) b

abbrev pub buffer_of : Call → State → Buffer
buffer_of (Open L Q) s = []
buffer_of (Restore x) s = []
buffer_of (On a) s = (named a s).buffer

-- ---- one call on a store of n bytes

pub record Outcome : Type 0 where
  pub reply : Reply
  pub buffer : Buffer
  pub state : State

-- A refused call answers its number; "store and answer buffer keep every byte".
unfoldable pub step_if : ℕ → Bool → Call → State → Outcome
step_if n sound c s =
    let ok = eqb (refusal n sound c s) 0 in
    let r = carry_out c s in
    record {
      reply = if ok then r.reply else Refused (refusal n sound c s);
      buffer = if ok then written (answer_bytes r.reply) (buffer_of c s) else buffer_of c s;
      state = if ok then r.state else s;
    }

-- the machine: it "starts in the state that the first store writes", so that every later state is a state too
abbrev pub step : ℕ → Call → State → Outcome
step n c s = step_if n true c s
