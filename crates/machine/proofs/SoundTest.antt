-- The test of a state decides Sound: it holds of the sound states, and of no other.
use Prim.Native.Nat.{ℕ, suc, ◌+◌, ◌≤◌, ◌<◌}
use mathlib.Core.Path.{◌≡◌, refl, sym, ap}
use mathlib.Core.Logic.{inl, inr}
use mathlib.Core.Bool.{Bool, true, false, not, ◌&&◌}
use mathlib.Core.List.{List, [], ◌∷◌}
use mathlib.Core.Option.{Option, none, some}
use native.Mathlib.Omega.{arith}
use lib.Dec.{ltb, leb, eqb}
use lib.ListN.{length}
use borrow.Author.Tests.{ltb-true, ltb-false, leb-true, lt-ltb, le-leb, eqb-true, eq-eqb}
use Rattle.ident.specs.declared.Kind.{Kind}
use Rattle.ident.specs.declared.Kind.TheVariants.{Txid, Wtxid}
use Rattle.ident.specs.Number.{top, Key, place, key_of}
use Rattle.words.specs.Words.{Decides}
use Rattle.machine.specs.Limits.{Limits, max_announcements, max_places, max_peer_announcements, max_in_flight, max_wtxids, max_parents, word}
use Rattle.machine.specs.State.{Candidate, Owner, Package, Request, Table, State, limits_of, is_some}
use Rattle.machine.specs.Table.{one, any, by, under, by_under, count_in, total, count, owner_in, owners, places_held, has}
use Rattle.machine.specs.Claim.{elem, same_kind}
use Rattle.machine.specs.Sound.{Hashes, NoRepeat, CursorFits, PollFits, Fits, AllFit, OwnerFits, PackageFits, ParentsFit, Packed, Marked, Lawful, Ordered, All, Filled, Bounded, Sound}
use Rattle.machine.specs.SoundTest.{hashes_fit, no_repeat, cursor_fits, poll_fits, key_is, fits, all_fit, owner_fits, package_fits, parents_fit, is_packed, mark_fits, is_lawful}
use Rattle.machine.specs.SoundTest.{is_ordered, every, is_filled, every_in, every_one, crowd_fits, is_bounded, sizes_fit, is_sound}
use Rattle.machine.proofs.Tests.{test, never, and_left, and_right}
use Rattle.machine.specs.Leave.{is_empty}

-- ---- tests put together

-- b is true exactly if P holds
pub record Test (b : Bool) (P : Type 0) : Type 0 where
  pub holds : b ≡ true → P
  pub passes : P → b ≡ true

pub test-decides : {P : Type 0} (b : Bool) → Test b P → Decides b P
test-decides true t = t.holds refl
test-decides false t = λ p. never (t.passes p)

pub test_and : {P Q : Type 0} (a b : Bool) → Test a P → Test b Q → Test (a && b) (P × Q)
test_and true b p q = record { holds = λ e. (p.holds refl, q.holds e); passes = λ z. q.passes z.1 }
test_and false b p q = record { holds = λ e. never e; passes = λ z. p.passes z.0 }

-- the same test of another form of the claim
pub test_iff : {P Q : Type 0} {b : Bool} → Test b P → (P → Q) → (Q → P) → Test b Q
test_iff t f g = record { holds = λ e. f (t.holds e); passes = λ q. t.passes (g q) }

pub test_unit : Test true (Unit {0})
test_unit = record { holds = λ e. tt; passes = λ z. refl }

test-itself : (b : Bool) → Test b (b ≡ true)
test-itself b = record { holds = λ e. e; passes = λ e. e }

test_less : (m n : ℕ) → Test (ltb m n) (m < n)
test_less m n = record { holds = ltb-true m n; passes = lt-ltb m n }

test-most : (m n : ℕ) → Test (leb m n) (m ≤ n)
test-most m n = record { holds = leb-true m n; passes = le-leb m n }

-- ---- numbers in their ranges

test-hashes : (hs : List ℕ) → Test (hashes_fit hs) (Hashes hs)
unfolding hashes_fit
test-hashes [] = test_unit
test-hashes (h ∷ hs) = test_and (ltb h top) (hashes_fit hs) (test_less h top) (test-hashes hs)

test-absent : (b : Bool) → Test (not b) (b ≡ false)
test-absent true = record { holds = λ e. sym e; passes = λ e. sym e }
test-absent false = record { holds = λ e. refl; passes = λ e. refl }

pub test-distinct : (hs : List ℕ) → Test (no_repeat hs) (NoRepeat hs)
unfolding no_repeat
test-distinct [] = test_unit
test-distinct (h ∷ hs) = test_and (not (elem h hs)) (no_repeat hs) (test-absent (elem h hs)) (test-distinct hs)

test-cursor : (c : Option Key) → Test (cursor_fits c) (CursorFits c)
test-cursor none = test_unit
test-cursor (some k) = test_less k.hash top

test-poll : (p : Option ℕ) → Test (poll_fits p) (PollFits p)
test-poll none = test_unit
test-poll (some n) = test_less n word

-- ---- one request

test-kind : (a b : Kind) → Test (same_kind a b) (a ≡ b)
test-kind Txid Txid = record { holds = λ e. refl; passes = λ e. refl }
test-kind Wtxid Wtxid = record { holds = λ e. refl; passes = λ e. refl }
test-kind Txid Wtxid = record { holds = λ e. never e; passes = λ e. let z : ◌≡◌ {A = ℕ} 0 1 = cc in absurd (omega arith) }
test-kind Wtxid Txid = record { holds = λ e. never e; passes = λ e. let z : ◌≡◌ {A = ℕ} 0 1 = cc in absurd (omega arith) }

test-number : (m n : ℕ) → Test (eqb m n) (m ≡ n)
test-number m n = record { holds = eqb-true m n; passes = eq-eqb m n }

same_key_lem : (j k : Key) → (j.kind ≡ k.kind) × (j.hash ≡ k.hash) → j ≡ k
same_key_lem j k e = go j.kind k.kind j.hash k.hash e.0 e.1
  where
    go : (a b : Kind) (m n : ℕ) → a ≡ b → m ≡ n → ◌≡◌ {A = Key} (record { kind = a; hash = m }) (record { kind = b; hash = n })
    go a b m n p q = rw (p, q)

test-key : (k : Key) (o : Option Key) → Test (key_is k o) (o ≡ some k)
test-key k none = record { holds = λ e. never e; passes = λ e. let z : ◌≡◌ {A = ℕ} 0 1 = cc in absurd (omega arith) }
test-key k (some j) =
    test_iff (test_and (same_kind j.kind k.kind) (eqb j.hash k.hash) (test-kind j.kind k.kind) (test-number j.hash k.hash))
    (λ e. ap some (same_key_lem j k e)) (λ e. let d : j ≡ k = cc in (ap (λ (i : Key). i.kind) d, ap (λ (i : Key). i.hash) d))

test_fits : (k : Key) (c : Candidate) → Test (fits k c) (Fits k c)
test_fits k c =
    test_iff (test_and (key_is k (key_of c.item)) _ (test-key k (key_of c.item)) (test_and (ltb 0 c.connection && ltb c.connection word) (ltb c.ready word && ltb c.priority word)
    (test_and (ltb 0 c.connection) (ltb c.connection word) (test_less 0 c.connection) (test_less c.connection word))
    (test_and (ltb c.ready word) (ltb c.priority word) (test_less c.ready word) (test_less c.priority word))))
    (λ p. record { item = p.0; positive = p.1.0.0; connection = p.1.0.1; ready = p.1.1.0; priority = p.1.1.1 })
    (λ f. (f.item, ((f.positive, f.connection), (f.ready, f.priority))))

test_all_fit : (k : Key) (cs : List Candidate) → Test (all_fit k cs) (AllFit k cs)
unfolding all_fit
test_all_fit k [] = test_unit
test_all_fit k (c ∷ cs) = test_and (fits k c) (all_fit k cs) (test_fits k c) (test_all_fit k cs)

test-owner : (o : Option Owner) (cs : List Candidate) → Test (owner_fits o cs) (OwnerFits o cs)
test-owner none cs = test_unit
test-owner (some o) cs = test_and (has o.connection cs) (ltb o.deadline word) (test-itself (has o.connection cs)) (test_less o.deadline word)

test-package : (p : Package) → Test (package_fits p) (PackageFits p)
test-package p =
    test_iff (test_and (ltb p.combined top && hashes_fit p.wtxids) (leb 1 (length p.wtxids) && leb (length p.wtxids) max_wtxids)
    (test_and (ltb p.combined top) (hashes_fit p.wtxids) (test_less p.combined top) (test-hashes p.wtxids))
    (test_and (leb 1 (length p.wtxids)) (leb (length p.wtxids) max_wtxids) (test-most 1 (length p.wtxids)) (test-most (length p.wtxids) max_wtxids)))
    (λ q. record { combined = q.0.0; wtxids = q.0.1; some_wtxid = q.1.0; few_wtxids = q.1.1 })
    (λ f. ((f.combined, f.wtxids), (f.some_wtxid, f.few_wtxids)))

test-parents : (hs : List ℕ) → Test (parents_fit hs) (ParentsFit hs)
test-parents hs =
    test_iff (test_and (hashes_fit hs) (no_repeat hs && leb (length hs) max_parents) (test-hashes hs)
    (test_and (no_repeat hs) (leb (length hs) max_parents) (test-distinct hs) (test-most (length hs) max_parents)))
    (λ q. record { hashes = q.0; distinct = q.1.0; few = q.1.1 })
    (λ f. (f.hashes, (f.distinct, f.few)))

test-empty : (hs : List ℕ) → Test (is_empty hs) (hs ≡ [])
test-empty [] = record { holds = λ e. refl; passes = λ e. refl }
test-empty (h ∷ hs) = record { holds = λ e. never e; passes = λ e. let z : ◌≡◌ {A = ℕ} 0 1 = cc in absurd (omega arith) }

test-packed : (k : Kind) (o : Option Owner) (i : Bool) (p : Option Package) (hs : List ℕ) → Test (is_packed k o i p hs) (Packed k o i p hs)
test-packed k o true (some p) hs = record { holds = λ e. never e; passes = λ z. absurd z }
test-packed k o true none hs = test_and (is_some o) (same_kind k Wtxid) (test-itself (is_some o)) (test-kind k Wtxid)
test-packed k o false (some p) hs =
    test_iff (test_and (is_some o) (same_kind k Wtxid && package_fits p) (test-itself (is_some o)) (test_and (same_kind k Wtxid) (package_fits p) (test-kind k Wtxid) (test-package p)))
    (λ q. (q.0, q.1.0, q.1.1)) (λ q. (q.0, (q.1, q.2)))
test-packed k o false none hs = test-empty hs

test-mark : (k : Kind) (m : Bool) → Test (mark_fits k m) (Marked k m)
test-mark k true = test-kind k Txid
test-mark k false = test_unit

pub test-lawful : (r : Request) → Test (is_lawful r) (Lawful r)
unfolding is_lawful
test-lawful r =
    let packed = is_packed r.key.kind r.owner r.info r.«package» r.parents in
    let rest = parents_fit r.parents && mark_fits r.key.kind r.fallback in
    test_iff (test_and (all_fit r.key r.candidates && owner_fits r.owner r.candidates) (packed && rest)
    (test_and (all_fit r.key r.candidates) (owner_fits r.owner r.candidates) (test_all_fit r.key r.candidates) (test-owner r.owner r.candidates))
    (test_and packed rest (test-packed r.key.kind r.owner r.info r.«package» r.parents)
    (test_and (parents_fit r.parents) (mark_fits r.key.kind r.fallback) (test-parents r.parents) (test-mark r.key.kind r.fallback))))
    (λ q. record { candidates = q.0.0; owner = q.0.1; packed = q.1.0; parents = q.1.1.0; mark = q.1.1.1 })
    (λ f. ((f.candidates, f.owner), (f.packed, (f.parents, f.mark))))

-- ---- the table

pub test-ordered : (lo : ℕ) (t : Table) → Test (is_ordered lo t) (Ordered lo t)
unfolding is_ordered
test-ordered lo [] = test_unit
test-ordered lo (r ∷ t) =
    let rest = is_ordered (suc (place r.key)) t in
    test_iff (test_and (leb lo (place r.key)) (ltb r.key.hash top && rest) (test-most lo (place r.key))
    (test_and (ltb r.key.hash top) rest (test_less r.key.hash top) (test-ordered (suc (place r.key)) t)))
    (λ q. (q.0, q.1.0, q.1.1)) (λ q. (q.0, (q.1, q.2)))

pub test-every : (p : Request → Bool) (P : Request → Type 0) → ((r : Request) → Test (p r) (P r)) → (t : Table) → Test (every p t) (All P t)
unfolding every
test-every p P f [] = test_unit
test-every p P f (r ∷ t) = test_and (p r) (every p t) (f r) (test-every p P f t)

-- ---- what is asked of each candidate holds of every number that is counted

-- a candidate of which the test p holds, and which q counts
record Met (p : Key → Candidate → Bool) (q : Key → ℕ → Bool) : Type 0 where
  pub key : Key
  pub candidate : Candidate
  pub passed : p key candidate ≡ true
  pub counted : q key candidate.connection ≡ true

met_in : (p : Key → Candidate → Bool) (q : Key → ℕ → Bool) (k : Key) (cs : List Candidate) → every_in p k cs ≡ true → 0 < count_in (q k) cs → Met p q
unfolding every_in count_in
met_in p q k [] e h = absurd (omega arith)
met_in p q k (c ∷ cs) e h = elim (test (q k c.connection)) [
  | inl d ↦ record { key = k; candidate = c; passed = and_left (p k c) (every_in p k cs) e; counted = d }
  | inr d ↦ met_in p q k cs (and_right (p k c) (every_in p k cs) e) (let g : 0 < 0 + count_in (q k) cs = rw d at h in omega arith)
]

met : (p : Key → Candidate → Bool) (q : Key → ℕ → Bool) (t : Table) → every_one p t ≡ true → 0 < count q t → Met p q
unfolding every total
met p q [] e h = absurd (omega arith)
met p q (r ∷ t) e h = elim (test (ltb 0 (count_in (q r.key) r.candidates))) [
  | inl d ↦ met_in p q r.key r.candidates (and_left (every_in p r.key r.candidates) (every_one p t) e) (ltb-true 0 _ d)
  | inr d ↦ met p q t (and_right (every_in p r.key r.candidates) (every_one p t) e) (omega (arith, ltb-false 0 (count_in (q r.key) r.candidates) d))
]

-- what bounds the count where a candidate of it stands bounds it
pub most-met : (p : Key → Candidate → Bool) (q : Key → ℕ → Bool) (t : Table) (n m : ℕ) → every_one p t ≡ true → n ≤ count q t
    → ((k : Key) (c : Candidate) → p k c ≡ true → q k c.connection ≡ true → n ≤ m) → n ≤ m
most-met p q t n m e l f = elim (test (ltb 0 n)) [
  | inl d ↦ let z : 0 < n = ltb-true 0 n d in let w = met p q t e (omega arith) in f w.key w.candidate w.passed w.counted
  | inr d ↦ omega (arith, ltb-false 0 n d)
]

-- an owner is a candidate
count-has : (q : ℕ → Bool) (n : ℕ) (cs : List Candidate) → has n cs ≡ true → one (q n) ≤ count_in q cs
unfolding has count_in
count-has q n [] e = never e
count-has q n (c ∷ cs) e = elim (test (eqb c.connection n)) [
  | inl d ↦ rw (eqb-true c.connection n d) (omega arith)
  | inr d ↦ omega (arith, count-has q n cs (rw d at e))
]

owner-counts : (q : ℕ → Bool) (o : Option Owner) (cs : List Candidate) → OwnerFits o cs → owner_in q o ≤ count_in q cs
owner-counts q none cs f = omega arith
owner-counts q (some o) cs f = count-has q o.connection cs f.0

pub owners-count : (q : Key → ℕ → Bool) (t : Table) → All Lawful t → owners q t ≤ count q t
unfolding total
owners-count q [] a = omega arith
owners-count q (r ∷ t) a = omega (arith, owner-counts (q r.key) r.owner r.candidates a.0.owner, owners-count q t a.1)

-- the five bounds of the one at hand
record Crowd (m : Limits) (t : Table) (n h : ℕ) : Type 0 where
  pub each : count (by n) t ≤ max_peer_announcements
  pub alternates : count (under h) t ≤ m.alternates
  pub once : count (by_under n h) t ≤ 1
  pub owned : owners (by n) t ≤ max_in_flight
  pub single : owners (under h) t ≤ 1

test_crowd : (m : Limits) (t : Table) (k : Key) (c : Candidate) → Test (crowd_fits m t k c) (Crowd m t c.connection k.hash)
unfolding crowd_fits
test_crowd m t k c =
    let n = c.connection in
    let h = k.hash in
    test_iff (test_and (leb (count (by n) t) max_peer_announcements && leb (count (under h) t) m.alternates)
    (leb (count (by_under n h) t) 1 && (leb (owners (by n) t) max_in_flight && leb (owners (under h) t) 1))
    (test_and (leb (count (by n) t) max_peer_announcements) (leb (count (under h) t) m.alternates)
    (test-most (count (by n) t) max_peer_announcements) (test-most (count (under h) t) m.alternates))
    (test_and (leb (count (by_under n h) t) 1) (leb (owners (by n) t) max_in_flight && leb (owners (under h) t) 1) (test-most (count (by_under n h) t) 1)
    (test_and (leb (owners (by n) t) max_in_flight) (leb (owners (under h) t) 1) (test-most (owners (by n) t) max_in_flight) (test-most (owners (under h) t) 1))))
    (λ q. record { each = q.0.0; alternates = q.0.1; once = q.1.0; owned = q.1.1.0; single = q.1.1.1 })
    (λ f. ((f.each, f.alternates), (f.once, (f.owned, f.single))))

-- of every connection and hash
abbrev Crowds : Limits → Table → Type 0
Crowds m t = (n h : ℕ) → Crowd m t n h

every_in_lem : (p : Key → Candidate → Bool) → ((k : Key) (c : Candidate) → p k c ≡ true) → (k : Key) (cs : List Candidate) → every_in p k cs ≡ true
unfolding every_in
every_in_lem p f k [] = refl
every_in_lem p f k (c ∷ cs) = rw (f k c, every_in_lem p f k cs)

pub every_one_lem : (p : Key → Candidate → Bool) → ((k : Key) (c : Candidate) → p k c ≡ true) → (t : Table) → every_one p t ≡ true
unfolding every
every_one_lem p f [] = refl
every_one_lem p f (r ∷ t) = rw (every_in_lem p f r.key r.candidates, every_one_lem p f t)

crowds : (m : Limits) (t : Table) → All Lawful t → every_one (crowd_fits m t) t ≡ true → Crowds m t
crowds m t a e n h = record {
  each = most-met (crowd_fits m t) (by n) t (count (by n) t) max_peer_announcements e (omega arith) (λ k c p q. rw (eqb-true c.connection n q) at (at_hand k c p).each);
  alternates = most-met (crowd_fits m t) (under h) t (count (under h) t) m.alternates e (omega arith) (λ k c p q. rw (eqb-true k.hash h q) at (at_hand k c p).alternates);
  once = most-met (crowd_fits m t) (by_under n h) t (count (by_under n h) t) 1 e (omega arith) (λ k c p q.
      rw (eqb-true k.hash h (and_left (eqb k.hash h) (eqb c.connection n) q), eqb-true c.connection n (and_right (eqb k.hash h) (eqb c.connection n) q)) at (at_hand k c p).once);
  owned = most-met (crowd_fits m t) (by n) t (owners (by n) t) max_in_flight e (owners-count (by n) t a) (λ k c p q. rw (eqb-true c.connection n q) at (at_hand k c p).owned);
  single = most-met (crowd_fits m t) (under h) t (owners (under h) t) 1 e (owners-count (under h) t a) (λ k c p q. rw (eqb-true k.hash h q) at (at_hand k c p).single);
}
  where
    at_hand : (k : Key) (c : Candidate) → crowd_fits m t k c ≡ true → Crowd m t c.connection k.hash
    at_hand k c p = (test_crowd m t k c).holds p

pub test-bounded : (m : Limits) (Q : ℕ) (t : Table) → Test (is_bounded m Q t) (Bounded m Q t)
unfolding is_bounded
test-bounded m Q t = record { holds = to; passes = from }
  where
    test_shape : Test (is_ordered 0 t && (every is_filled t && every is_lawful t)) (Ordered 0 t × (All Filled t × All Lawful t))
    test_shape = test_and (is_ordered 0 t) (every is_filled t && every is_lawful t) (test-ordered 0 t)
        (test_and (every is_filled t) (every is_lawful t) (test-every is_filled Filled (λ r. test-most 1 (length r.candidates)) t) (test-every is_lawful Lawful test-lawful t))

    test-room : Test (leb (count any t) m.announcements && leb (places_held t) Q) ((count any t ≤ m.announcements) × (places_held t ≤ Q))
    test-room = test_and (leb (count any t) m.announcements) (leb (places_held t) Q) (test-most (count any t) m.announcements) (test-most (places_held t) Q)

    to : ((is_ordered 0 t && (every is_filled t && every is_lawful t)) && (every_one (crowd_fits m t) t && (leb (count any t) m.announcements && leb (places_held t) Q))) ≡ true → Bounded m Q t
    to e =
        let x = test_shape.holds (and_left (is_ordered 0 t && (every is_filled t && every is_lawful t)) _ e) in
        let f = and_right (is_ordered 0 t && (every is_filled t && every is_lawful t)) _ e in
        let y = crowds m t x.1.1 (and_left (every_one (crowd_fits m t) t) _ f) in
        let z = test-room.holds (and_right (every_one (crowd_fits m t) t) _ f) in
        record {
          ordered = x.0;
          filled = x.1.0;
          lawful = x.1.1;
          fits = z.0;
          each = λ n. (y n 0).each;
          alternates = λ h. (y 0 h).alternates;
          once = λ n h. (y n h).once;
          owned = λ n. (y n 0).owned;
          single = λ h. (y 0 h).single;
          room = z.1;
        }

    from : Bounded m Q t → ((is_ordered 0 t && (every is_filled t && every is_lawful t)) && (every_one (crowd_fits m t) t && (leb (count any t) m.announcements && leb (places_held t) Q))) ≡ true
    from b =
        let c = every_one_lem (crowd_fits m t) (λ k c. (test_crowd m t k c).passes (record {
          each = b.each c.connection;
          alternates = b.alternates k.hash;
          once = b.once c.connection k.hash;
          owned = b.owned c.connection;
          single = b.single k.hash;
        })) t in
        rw (test_shape.passes (b.ordered, (b.filled, b.lawful)), c, test-room.passes (b.fits, b.room))

-- ---- the state

test-sound : (s : State) → Test (is_sound s) (Sound s)
unfolding is_sound
test-sound s =
    let L = s.limit in
    let Q = s.places in
    let table = is_bounded (limits_of s) Q s.table in
    let cursors = cursor_fits s.known_cursor && cursor_fits s.ready_cursor in
    test_iff (test_and (sizes_fit s) (table && (poll_fits s.next_poll && cursors))
    (test_and (leb 1 L && leb L max_announcements) (leb 1 Q && leb Q max_places)
    (test_and (leb 1 L) (leb L max_announcements) (test-most 1 L) (test-most L max_announcements)) (test_and (leb 1 Q) (leb Q max_places) (test-most 1 Q) (test-most Q max_places)))
    (test_and table (poll_fits s.next_poll && cursors) (test-bounded (limits_of s) Q s.table)
    (test_and (poll_fits s.next_poll) cursors (test-poll s.next_poll)
    (test_and (cursor_fits s.known_cursor) (cursor_fits s.ready_cursor) (test-cursor s.known_cursor) (test-cursor s.ready_cursor)))))
    (λ q. record {
      some_limit = q.0.0.0;
      most-limit = q.0.0.1;
      some_place = q.0.1.0;
      most-places = q.0.1.1;
      bounded = q.1.0;
      poll = q.1.1.0;
      known = q.1.1.1.0;
      ready = q.1.1.1.1;
    })
    (λ v. (((v.some_limit, v.most-limit), (v.some_place, v.most-places)), (v.bounded, (v.poll, (v.known, v.ready)))))

-- a state passes the test exactly if it is sound
pub sound-passes : (s : State) → Sound s → is_sound s ≡ true
sound-passes s v = (test-sound s).passes v

pub passes-sound : (s : State) → is_sound s ≡ true → Sound s
passes-sound s e = (test-sound s).holds e

pub sound-decides : (s : State) → Decides (is_sound s) (Sound s)
sound-decides s = test-decides (is_sound s) (test-sound s)
