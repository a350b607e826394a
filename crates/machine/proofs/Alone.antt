-- What announce, request_parent and announce_parents leave alone: owner, flag, package and parents of every request.
use Prim.Native.Nat.{ℕ, suc, ◌+◌, ◌≤◌, ◌<◌}
use mathlib.Core.Path.{◌≡◌, refl, sym, ap, ◌∙◌}
use mathlib.Core.Logic.{inl, inr}
use mathlib.Core.Bool.{Bool, true, false}
use mathlib.Core.List.{List, [], ◌∷◌}
use mathlib.Core.Option.{Option, none, some}
use native.Mathlib.Omega.{arith}
use lib.Dec.{leb, eqb}
use lib.ListN.{length, length-append}
use borrow.Author.Tests.{eqb-true, eqb-false}
use Rattle.ident.specs.declared.Kind.{Kind}
use Rattle.std.specs.Prelude.{if◌then◌else◌}
use Rattle.ident.specs.Number.{Key, place, other, top, txid}
use Rattle.ident.proofs.Places.{place_same as place-inj}
use Rattle.machine.specs.Limits.{Limits, max_peer_announcements, word}
use Rattle.machine.specs.State.{Candidate, Owner, Package, Request, Table, Entry, Answer, marked, owner_is, is_some}
use Rattle.machine.specs.Table.{at, change, has, held, held_by, held_at, is_candidate}
use Rattle.machine.specs.Announce.{without, push, cut, victims, greatest, greatest_from, evicting, at_hash, anywhere, announce_at, adopt, adopted, request_parent_at}
use Rattle.machine.specs.Fail.{dedup, parent_of, mark, parents_from, announce_parents}
use Rattle.machine.specs.Sound.{Hashes, Packed, OwnerFits, Ordered, All, Lawful, Bounded}
use Rattle.machine.specs.Typed.{Each}
use Rattle.machine.proofs.Tests.{test, by_test, never}
use Rattle.machine.proofs.Table.{ordered-change, lawful_at}
use Rattle.machine.proofs.Change.{owner-without}
use Rattle.machine.proofs.Announce.{Victim, victims_all, greatest_of}
use Rattle.machine.proofs.Fail.{Peer, FewHashes, parents-dedup, bounded-parent_at, bounded-mark}
use Rattle.machine.proofs.At.{KeepsKey, kept, at_same, at_other}

-- ---- what a request holds

-- owner, flag, package and parents
pub record Hold : Type 0 where
  pub owner : Option Owner
  pub info : Bool
  pub «package» : Option Package
  pub parents : List ℕ

abbrev pub hold_of : Request → Hold
hold_of r = record { owner = r.owner; info = r.info; «package» = r.«package»; parents = r.parents }

abbrev pub no_hold : Hold
no_hold = record { owner = none; info = false; «package» = none; parents = [] }

-- a request that nobody owns holds nothing
none_hold' : (k : Kind) (o : Option Owner) (i : Bool) (p : Option Package) (hs : List ℕ) → o ≡ none → Packed k o i p hs
    → ◌≡◌ {A = Hold} (record { owner = o; info = i; «package» = p; parents = hs }) no_hold
none_hold' k o true (some p) hs e h = absurd h
none_hold' k o true none hs e h = never (sym (ap is_some e) ∙ h.0)
none_hold' k o false (some p) hs e h = never (sym (ap is_some e) ∙ h.0)
none_hold' k o false none hs e h = λ i. record { owner = e i; info = false; «package» = none; parents = h i }

pub none_hold : (r : Request) → Lawful r → r.owner ≡ none → hold_of r ≡ no_hold
none_hold r l e = none_hold' r.key.kind r.owner r.info r.«package» r.parents e l.packed

pub has_some : (n : ℕ) (cs : List Candidate) → has n cs ≡ true → 1 ≤ length cs
unfolding has
has_some n [] h = never h
has_some n (c ∷ cs) h = omega arith

-- an owner is a candidate, so that a request with none holds nothing
pub owner-empty : (o : Option Owner) (cs : List Candidate) → cs ≡ [] → OwnerFits o cs → o ≡ none
unfolding has
owner-empty none cs e h = refl
owner-empty (some o) [] e h = never h.0
owner-empty (some o) (c ∷ cs) e h = absurd (omega (arith, ap length e))

pub empty-hold : (r : Request) → Lawful r → r.candidates ≡ [] → hold_of r ≡ no_hold
empty-hold r l e = none_hold r l (owner-empty r.owner r.candidates e l.owner)

-- ---- tables in which every request holds the same

pub record Alone (t t' : Table) : Type 0 where
  pub hold : (j : Key) → j.hash < top → hold_of (at j t') ≡ hold_of (at j t)

pub alone_same : {t : Table} → Alone t t
alone_same = record { hold = λ j s. refl }

pub alone_then : {t t' t'' : Table} → Alone t t' → Alone t' t'' → Alone t t''
alone_then a b = record { hold = λ j s. b.hold j s ∙ a.hold j s }

-- what `keep` leaves holds the same, if a request that goes holds nothing
pub hold_kept : (k : Key) (r : Request) (x : Hold) (cs : List Candidate) → hold_of r ≡ x → (cs ≡ [] → x ≡ no_hold) → hold_of (kept k r cs) ≡ x
hold_kept k r x [] e z = sym (z refl)
hold_kept k r x (c ∷ cs) e z = e

-- a law at k, and that all else stays, is a law of every key
pub at_either : (P : Key → Request → Type 0) (k : Key) (f : Request → Request) (t : Table) → k.hash < top → KeepsKey f → Ordered 0 t
    → P k (kept k (f (at k t)) (f (at k t)).candidates) → ((j : Key) → j.hash < top → P j (at j t)) → (j : Key) → j.hash < top → P j (at j (change k f t))
at_either P k f t s ff o here there j h =
    elim (test (eqb (place j) (place k))) [
      | inl e ↦ rw (place-inj j k h s (eqb-true _ _ e)) (rw (at_same k f 0 t ff o) here)
      | inr e ↦ rw (at_other j k f t ff (eqb-false _ _ e)) (there j h)
    ]

pub alone-change : (k : Key) (f : Request → Request) (t : Table) → k.hash < top → KeepsKey f → Ordered 0 t → hold_of (f (at k t)) ≡ hold_of (at k t)
    → ((f (at k t)).candidates ≡ [] → hold_of (at k t) ≡ no_hold) → Alone t (change k f t)
alone-change k f t s ff o e z = record { hold = at_either (λ j r. hold_of r ≡ hold_of (at j t)) k f t s ff o (hold_kept k (f (at k t)) (hold_of (at k t)) (f (at k t)).candidates e z) (λ j h. refl) }

-- ---- announce

alone-push : (k : Key) (c : Candidate) (t : Table) → k.hash < top → Ordered 0 t → Alone t (push k c t)
alone-push k c t s o = alone-change k _ t s (λ r. refl) o refl (λ e. absurd (omega (arith, ap length e, length-append (at k t).candidates (c ∷ []))))

-- an owner is never evicted, and keeps its request
pub alone-cut : (k : Key) (n : ℕ) (t : Table) → k.hash < top → Ordered 0 t → All Lawful t → owner_is n (at k t).owner ≡ false → Alone t (cut k n t)
alone-cut k n t s o l w =
    let r = lawful_at k t l in
    alone-change k _ t s (λ r. refl) o refl
    (λ e. none_hold (at k t) r (owner-empty (at k t).owner (without n (at k t).candidates) e (owner-without n (at k t).owner (at k t).candidates w r.owner)))

alone-evicting : (p : Key → Bool) (k : Key) (c : Candidate) (t : Table) → k.hash < top → Ordered 0 t → All Lawful t → Alone t (evicting (greatest (victims p t)) k c t).table
unfolding evicting greatest
alone-evicting p k c t s o l = go (victims p t) (victims_all p 0 t o)
  where
    with_victim : (v : Entry) → Victim p 0 t v → Alone t (push k c (cut v.key v.candidate.connection t))
    with_victim v x = alone_then (alone-cut v.key v.candidate.connection t x.small o l x.free) (alone-push k c _ s (ordered-change v.key _ 0 t (λ r. refl) (omega arith) x.small o))

    go : (l : List Entry) → Each (Victim p 0 t) l → Alone t (evicting (greatest l) k c t).table
    go [] a = alone_same
    go (v ∷ l) a = with_victim (greatest_from v l) (greatest_of (Victim p 0 t) v l a.0 a.1)

pub alone-announce_at : (m : Limits) (k : Key) (c : Candidate) (t : Table) → k.hash < top → Ordered 0 t → All Lawful t → Alone t (announce_at m k c t).table
unfolding announce_at
alone-announce_at m k c t s o l =
    by_test P (is_candidate c.connection k.hash t) (λ e. alone_same) λ e₁.
    by_test P (leb max_peer_announcements (held_by c.connection t)) (λ e. alone_same) λ e₂.
    by_test P (leb m.alternates (held_at k.hash t)) (λ e₃. by_test P c.preferred (λ e. alone-evicting (at_hash k.hash) k c t s o l) (λ e. alone_same)) λ e₃.
    by_test P (leb m.announcements (held t)) (λ e₄. by_test P c.preferred (λ e. alone-evicting anywhere k c t s o l) (λ e. alone_same)) λ e₄.
    alone-push k c t s o
  where
    P : Answer → Type 0
    P x = Alone t x.table

-- ---- request_parent and the mark

pub adopt-empty : (b : Bool) (c : Candidate) (cs : List Candidate) → adopt b c cs ≡ [] → cs ≡ []
unfolding adopt
adopt-empty b c [] e = refl
adopt-empty b c (d ∷ cs) e = elim (test (eqb d.connection c.connection)) [ inl q ↦ absurd (omega (arith, ap length (rw q at e))) | inr q ↦ absurd (omega (arith, ap length (rw q at e))) ]

alone-adopted : (b : Bool) (k : Key) (c : Candidate) (t : Table) → k.hash < top → Ordered 0 t → All Lawful t → Alone t (adopted b k c t)
alone-adopted b k c t s o l = alone-change k _ t s (λ r. refl) o refl (λ e. empty-hold (at k t) (lawful_at k t l) (adopt-empty b c (at k t).candidates e))

pub alone-parent_at : (m : Limits) (k : Key) (c : Candidate) (t : Table) → k.hash < top → Ordered 0 t → All Lawful t → Alone t (request_parent_at m k c t).table
unfolding request_parent_at
alone-parent_at m k c t s o l =
    by_test P (has c.connection (at k t).candidates) (λ e. alone-adopted true k c t s o l) λ e.
    by_test P (has c.connection (at (other k) t).candidates) (λ e. alone-adopted false (other k) c t s o l) λ e.
    alone-announce_at m k c t s o l
  where
    P : Answer → Type 0
    P x = Alone t x.table

pub alone-mark : (k : Key) (t : Table) → k.hash < top → Ordered 0 t → All Lawful t → Alone t (mark k t)
alone-mark k t s o l = alone-change k marked t s (λ r. refl) o refl (λ e. empty-hold (at k t) (lawful_at k t l) e)

-- ---- announce_parents

-- one parent: requested, and marked if kept
abbrev parented : Limits → ℕ → ℕ → ℕ → ℕ → Table → Table
parented m n now i h t = let a = request_parent_at m (txid h) (parent_of n now h i) t in if a.reply then mark (txid h) a.table else a.table

bounded_parented : {m : Limits} {Q : ℕ} {t : Table} (n now i h : ℕ) → Peer n → now < word → i < word → h < top → Bounded m Q t → Bounded m Q (parented m n now i h t)
bounded_parented {m} {Q} {t} n now i h p w v s b =
    let b' = bounded-parent_at (txid h) (parent_of n now h i) s (record { item = refl; positive = p.positive; connection = p.small; ready = w; priority = v }) b in
    by_test (Bounded m Q) (request_parent_at m (txid h) (parent_of n now h i) t).reply (λ e. bounded-mark h s b') (λ e. b')

alone_parented : {m : Limits} {Q : ℕ} {t : Table} (n now i h : ℕ) → Peer n → now < word → i < word → h < top → Bounded m Q t → Alone t (parented m n now i h t)
alone_parented {m} {Q} {t} n now i h p w v s b =
    let c = parent_of n now h i in
    let b' = bounded-parent_at (txid h) c s (record { item = refl; positive = p.positive; connection = p.small; ready = w; priority = v }) b in
    let a = alone-parent_at m (txid h) c t s b.ordered b.lawful in
    by_test (Alone t) (request_parent_at m (txid h) c t).reply (λ e. alone_then a (alone-mark (txid h) _ s b'.ordered b'.lawful)) (λ e. a)

alone-parents_from : {m : Limits} {Q : ℕ} {t : Table} (n now i : ℕ) (hs : List ℕ) → Peer n → now < word → Hashes hs → i + length hs ≤ word → Bounded m Q t
    → Alone t (parents_from m n now i hs t).table
unfolding parents_from
alone-parents_from n now i [] p w a l b = alone_same
alone-parents_from {m} {Q} {t} n now i (h ∷ hs) p w a l b =
    alone_then (alone_parented n now i h p w (omega arith) a.0 b) (alone-parents_from {t = parented m n now i h t} n now (suc i) hs p w a.1 (omega arith)
    (bounded_parented n now i h p w (omega arith) a.0 b))

pub alone-parents : {m : Limits} {Q : ℕ} {t : Table} (n now : ℕ) (hs : List ℕ) → Peer n → now < word → FewHashes hs → Bounded m Q t → Alone t (announce_parents m n now hs t).table
unfolding announce_parents
alone-parents n now hs p w a b = let f = parents-dedup hs a in alone-parents_from n now 0 (dedup hs) p w f.hashes (omega (arith, f.few)) b
