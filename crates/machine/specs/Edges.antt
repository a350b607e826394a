-- The edges of document 01 that are marked P, its worked lines and those of document 02, requests c and e: one record, proved as one theorem by computation.
use Rattle.std.specs.Prelude.{ℕ, zero, suc, ◌≡◌, Bool, true, false, List, [], ◌∷◌, map, replicate}
use Rattle.std.proofs.Math.Option.{Option, none, some}
use Rattle.ident.specs.declared.ItemKind.{ItemKind}
use Rattle.ident.specs.declared.ItemKind.TheVariants.{Transaction, WTx}
use Rattle.ident.specs.Number.{Key, txid, wtxid}
use Rattle.machine.specs.State.{Candidate, Request, Table, State, Entry}
use Rattle.machine.specs.Table.{owners, any}
use Rattle.machine.specs.Wrapper.{Offer, Sums}
use Rattle.machine.specs.Call.{Buffer, Ask, Announce, Failed, SolicitPackageInfo, ClaimPackage, BeginPackageResolution, AnnounceParents, Plan, Claim, AnnounceTransactions, Sum}
use Rattle.machine.specs.Call.{OwnersOf, Call, Open, On}
use Rattle.machine.specs.Owners.{Holding}
use Rattle.machine.specs.Step.{Reply, Refused, Number, Entries, Chosen, Summed, Owned, empty, perform, step}

-- ---- how the edges are written

-- a candidate that is ready at 0
abbrev pub candidate : ItemKind → ℕ → ℕ → Bool → ℕ → Candidate
candidate i n h p q = record { connection = n; item = record { kind = i; hash = h }; ready = 0; preferred = p; priority = q }

-- as w and as t: connection, hash, preferred, priority
abbrev pub w : ℕ → ℕ → Bool → ℕ → Candidate
w n h p q = candidate WTx n h p q

abbrev pub t : ℕ → ℕ → Bool → ℕ → Candidate
t n h p q = candidate Transaction n h p q

-- the state after calls that are carried out, and the reply of one more
abbrev pub after : List Ask → State → State
after [] s = s
after (a ∷ l) s = after l (perform a s).state

abbrev pub reply : Ask → State → Reply
reply a s = (perform a s).reply

-- the replies of a list of calls on a store of n bytes
abbrev pub replies : ℕ → List Call → State → List Reply
replies n [] s = []
replies n (c ∷ cs) s = (step n c s).reply ∷ replies n cs (step n c s).state

-- one figure of every candidate, request by request
abbrev pub figures : (Candidate → ℕ) → State → List (List ℕ)
figures f s = map (λ (r : Request). map f r.candidates) s.table

abbrev pub connections : State → List (List ℕ)
connections s = figures (λ c. c.connection) s

-- ---- eight candidates at the hash 77, the third and the sixth as given, and a ninth

abbrev pub eight : Candidate → Candidate → State
eight a b =
    after
    (Announce (w 1 77 true 0) ∷ Announce (w 2 77 true 0) ∷ Announce a ∷ Announce (w 4 77 true 0) ∷ Announce (w 5 77 true 0) ∷ Announce b ∷ Announce (w 7 77 true 0)
    ∷ Announce (w 8 77 true 0) ∷ [])
    (empty 16 1)

abbrev pub ninth : Ask
ninth = Announce (w 9 77 true 0)

abbrev pub evicted : Candidate → Candidate → List (List ℕ)
evicted a b = connections (after (ninth ∷ []) (eight a b))

-- ---- one candidate, claimed at 1,000

abbrev pub held7 : Entry
held7 = record { key = wtxid 10; candidate = w 7 10 false 5 }

abbrev pub claimed : State
claimed = after (Announce (w 7 10 false 5) ∷ Plan 1000 none [] ∷ Claim 1000 (held7 ∷ []) [] ∷ []) (empty 4 1)

abbrev pub owners_after : ℕ → ℕ
owners_after now = owners any (after (Plan now none [] ∷ []) claimed).table

-- ---- a solicitation of connection 7 for the hash 10; its package claimed, then Enqueued

abbrev pub solicited : State
solicited = after (SolicitPackageInfo 7 10 (20 ∷ []) 0 ∷ []) (empty 4 1)

abbrev pub queued : State
queued = after (ClaimPackage 7 10 99 (10 ∷ []) 0 ∷ BeginPackageResolution 7 10 99 (10 ∷ []) 0 ∷ []) solicited

-- ---- connection 7 with n requests of its own

-- Written down, not reached by calls: a hundred announcements and a claim are dear to compute. It is sound (`owning-sound`, proofs/Owning).
abbrev pub owned : ℕ → ℕ → Table
owned h zero = []
owned h (suc n) =
    record {
      key = txid h;
      candidates = t 7 h false 0 ∷ [];
      owner = some (record { connection = 7; deadline = 60000 });
      info = false;
      «package» = none;
      parents = [];
      fallback = false;
    }
    ∷ owned (suc h) n

abbrev pub owning : ℕ → State
owning n = record { limit = 128; places = 1; table = owned 1 n; next_poll = none; known_cursor = none; ready_cursor = none }

-- ---- the worked lines of document 01

-- open,4,1 / ann,7,wa,0,0,5 / ann,7,ta,0,0,6 / plan,0 / take,0 / bad,wa,7,10 / plan,10
abbrev pub room : Buffer
room = replicate 448 0

abbrev pub worked : List Call
worked =
    Open 4 1 ∷ On (Announce (w 7 10 false 5)) ∷ On (Announce (t 7 10 false 6)) ∷ On (Plan 0 none room) ∷ On (Claim 0 (held7 ∷ []) room) ∷ On (Failed (wtxid 10) 7 10)
    ∷ On (Plan 10 none room) ∷ []

-- ---- lines of document 02, request c

-- a candidate that is not ready at 0
abbrev pub at : ℕ → Candidate → Candidate
at ready c = record { connection = c.connection; item = c.item; ready = ready; preferred = c.preferred; priority = c.priority }

abbrev pub later8 : Entry
later8 = record { key = txid 10; candidate = at 30 (t 8 10 false 5) }

abbrev pub later9 : Entry
later9 = record { key = wtxid 10; candidate = at 60030 (w 9 10 false 1) }

-- open,4,1 / ann,7,ta,50,0,5 / plan,10 / ann,8,ta,30,0,5 / plan,10 / plan,30 / take,30 / plan,40 / ann,9,wa,45,0,1 / plan,40 / ann,6,wa,70000,0,9 / plan,60030
abbrev pub looking : List Call
looking =
    Open 4 1 ∷ On (Announce (at 50 (t 7 10 false 5))) ∷ On (Plan 10 none room) ∷ On (Announce (at 30 (t 8 10 false 5))) ∷ On (Plan 10 none room) ∷ On (Plan 30 none room)
    ∷ On (Claim 30 (later8 ∷ []) room) ∷ On (Plan 40 none room) ∷ On (Announce (at 45 (w 9 10 false 1))) ∷ On (Plan 40 none room)
    ∷ On (Announce (at 70000 (w 6 10 false 9))) ∷ On (Plan 60030 none room) ∷ []

-- the owners of hashes: t5 and w9 are owned, w5 is not
abbrev pub five : Entry
five = record { key = txid 5; candidate = t 1 5 false 0 }

abbrev pub nine : Entry
nine = record { key = wtxid 9; candidate = w 3 9 false 0 }

abbrev pub asked : List Call
asked =
    Open 4 1 ∷ On (Announce five.candidate) ∷ On (Announce (w 2 5 false 0)) ∷ On (Announce nine.candidate) ∷ On (Plan 0 none room) ∷ On (Claim 0 (five ∷ nine ∷ []) room)
    ∷ On (OwnersOf (5 ∷ 7 ∷ 9 ∷ []) room) ∷ On (OwnersOf (7 ∷ []) room) ∷ On (OwnersOf [] []) ∷ On (OwnersOf (7 ∷ 5 ∷ []) room) ∷ On (OwnersOf (5 ∷ 5 ∷ []) [])
    ∷ On (OwnersOf (5 ∷ 7 ∷ []) []) ∷ []

abbrev pub until60000 : Key → ℕ → Option Holding
until60000 k n = some (record { key = k; connection = n; deadline = 60000 })

-- ---- the edges

pub record Edges : Type 0 where
  pub worked-lines : replies 100000 worked (empty 1 1) ≡ Number 1 ∷ Number 1 ∷ Number 0 ∷ Chosen 1 (held7 ∷ []) none ∷ Entries (held7 ∷ []) ∷ Number 1 ∷ Chosen 0 [] none ∷ []
  -- the next look: 50, then 30, while nothing is ready; 50 beside a selection; the deadline 60030 of an owner; 45 at a key that nobody owns though its hash is owned; none, since expiry makes
  -- the candidates there ready, the one at 70000 too
  pub look-lines : replies 100000 looking (empty 1 1) ≡
      Number 1 ∷ Number 1 ∷ Chosen 1 [] (some 50) ∷ Number 1 ∷ Chosen 1 [] (some 30) ∷ Chosen 1 (later8 ∷ []) (some 50) ∷ Entries (later8 ∷ []) ∷ Chosen 1 [] (some 60030) ∷ Number 1
      ∷ Chosen 2 [] (some 45) ∷ Number 1 ∷ Chosen 2 (later9 ∷ []) none ∷ []
  -- the keys up to the greatest hash are passed, both kinds; nobody owns 7; 13 where the order is wrong, with no buffer too, and 7 where it is right
  pub whose-lines : replies 100000 asked (empty 1 1) ≡
      Number 1 ∷ Number 1 ∷ Number 1 ∷ Number 1 ∷ Chosen 3 (five ∷ nine ∷ []) none ∷ Entries (five ∷ nine ∷ []) ∷ Owned 3 (until60000 (txid 5) 1 ∷ none ∷ until60000 (wtxid 9) 3 ∷ [])
      ∷ Owned 2 (none ∷ []) ∷ Owned 0 [] ∷ Refused 13 ∷ Refused 13 ∷ Refused 7 ∷ []
  -- "Eight preferred at a hash, ninth preferred: 0."
  pub ninth-preferred : reply ninth (eight (w 3 77 true 0) (w 6 77 true 0)) ≡ Number 0
  pub all_stay : evicted (w 3 77 true 0) (w 6 77 true 0) ≡ (1 ∷ 2 ∷ 3 ∷ 4 ∷ 5 ∷ 6 ∷ 7 ∷ 8 ∷ []) ∷ []
  -- "One of the eight unpreferred and unowned: it goes, 1."
  pub one_unpreferred : reply ninth (eight (w 3 77 false 0) (w 6 77 true 0)) ≡ Number 1
  pub it_goes : evicted (w 3 77 false 0) (w 6 77 true 0) ≡ (1 ∷ 2 ∷ 4 ∷ 5 ∷ 6 ∷ 7 ∷ 8 ∷ 9 ∷ []) ∷ []
  -- "Unpreferred 5 and 9: the 9 goes."
  pub nine_goes : evicted (w 3 77 false 5) (w 6 77 false 9) ≡ (1 ∷ 2 ∷ 3 ∷ 4 ∷ 5 ∷ 7 ∷ 8 ∷ 9 ∷ []) ∷ []
  pub nine_goes_first : evicted (w 3 77 false 9) (w 6 77 false 5) ≡ (1 ∷ 2 ∷ 4 ∷ 5 ∷ 6 ∷ 7 ∷ 8 ∷ 9 ∷ []) ∷ []
  -- "Equal: Wtxid goes before Txid, then the greater connection."
  pub wtxid_goes : evicted (w 3 77 false 5) (t 6 77 false 5) ≡ (6 ∷ []) ∷ (1 ∷ 2 ∷ 4 ∷ 5 ∷ 7 ∷ 8 ∷ 9 ∷ []) ∷ []
  pub greater_goes : evicted (w 3 77 false 5) (w 6 77 false 5) ≡ (1 ∷ 2 ∷ 3 ∷ 4 ∷ 5 ∷ 7 ∷ 8 ∷ 9 ∷ []) ∷ []
  -- "Claimed at 1,000: plan at 60,999 keeps, at 61,000 fails it."
  pub keeps : owners_after 60999 ≡ 1
  pub fails : owners_after 61000 ≡ 0
  -- "0 wtxids: 0; 1: 1."
  pub no-wtxids : reply (ClaimPackage 7 10 99 [] 0) solicited ≡ Number 0
  pub one_wtxid : reply (ClaimPackage 7 10 99 (10 ∷ []) 0) solicited ≡ Number 1
  -- "Enqueued: failed 0, state unchanged."
  pub enqueued : perform (Failed (wtxid 10) 7 0) queued ≡ record { reply = Number 0; state = queued }
  -- "Parents a, b, a: a and b, priorities 0 and 1." Here a is 500 and b 300, so that b stands first.
  pub parents : figures (λ c. c.priority) (after (AnnounceParents 7 (500 ∷ 300 ∷ 500 ∷ []) 0 [] ∷ []) (empty 4 1)) ≡ (1 ∷ []) ∷ (0 ∷ []) ∷ []
  -- "Inbound, txid delay, overload: ready = now + 6,000."
  pub delayed : figures (λ c. c.ready) (after (AnnounceTransactions 7 1000 false true (record { item = record { kind = Transaction; hash = 0 }; priority = 0 } ∷ []) ∷ []) (owning 100)) ≡
      (7000 ∷ []) ∷ map (λ (r : Request). 0 ∷ []) (owning 100).table
  -- "L = 3, held 2: `2,1,666`", which document 02 makes `2,1,3,666` "if both held ones are unpreferred and unowned"
  pub two_of_three : reply Sum (after (Announce (w 7 10 false 5) ∷ Announce (w 8 10 false 5) ∷ []) (empty 3 1)) ≡ Summed (record { held = 2; free = 1; preferred = 3; permille = 666 })
