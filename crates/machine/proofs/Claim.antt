-- claim keeps the bounds.
use Rattle.std.specs.Prelude.{if◌then◌else◌}
use Prim.Native.Nat.{ℕ, ◌+◌, ◌<◌}
use mathlib.Core.Path.{◌≡◌, refl}
use mathlib.Core.Bool.{Bool, true, false}
use mathlib.Core.List.{List, [], ◌∷◌}
use mathlib.Core.Option.{Option, none, some}
use native.Mathlib.Omega.{arith}
use lib.Dec.{leb, eqb}
use borrow.Author.Tests.{ltb-true, eqb-true, eq-eqb}
use Rattle.ident.specs.declared.Kind.{Kind}
use Rattle.ident.specs.declared.Kind.TheVariants.{Txid, Wtxid}
use Rattle.ident.specs.Number.{top, Key, txid, wtxid}
use Rattle.machine.specs.Limits.{Limits, max_in_flight, request_lifetime, word}
use Rattle.machine.specs.State.{Candidate, Owner, Package, Table, Entry, owned_until, is_none}
use Rattle.machine.specs.Table.{at, change, has, owned_by, owned_at}
use Rattle.machine.specs.Plan.{able, chosen_by, sooner, better, or_else, least_in, least_at, choice}
use Rattle.machine.specs.Claim.{same_kind, same_key, same_entry, is_choice, takes, claim}
use Rattle.machine.specs.Sound.{Packed, Bounded}
use Rattle.machine.specs.Typed.{EntryTyped, Each}
use Rattle.machine.proofs.Tests.{by_test, never, and_left, and_right, or_true}
use Rattle.machine.proofs.Change.{Owns, bounded-own}

packed-own : (k : Kind) (o : Option Owner) (w : Owner) (i : Bool) (p : Option Package) (hs : List ℕ) → Packed k o i p hs → Packed k (some w) i p hs
packed-own k o w true (some p) hs h = h
packed-own k o w true none hs h = (refl, h.1)
packed-own k o w false (some p) hs h = (refl, h.1, h.2)
packed-own k o w false none hs h = h

owns-until : (k : Key) (n d : ℕ) → d < word → Owns k n 0 (owned_until n d)
owns-until k n d w = record {
  key = λ r. refl;
  same = λ r. refl;
  owner = λ p r. omega arith;
  place = λ r. omega arith;
  lawful = λ r e u h l. record {
    candidates = l.candidates;
    owner = (h, w);
    packed = packed-own r.key.kind r.owner (record { connection = n; deadline = d }) r.info r.«package» r.parents l.packed;
    parents = l.parents;
    mark = l.mark;
  };
}

-- ---- what a plan would choose is an able candidate of its request

abbrev AllOf : (Entry → Type 0) → Option Entry → Type 0
AllOf P none = Unit {0}
AllOf P (some a) = P a

better_of : (P : Entry → Type 0) (a : Entry) (y : Option Entry) → P a → AllOf P y → AllOf P (better a y)
unfolding better
better_of P a none p q = p
better_of P a (some b) p q = by_test P (sooner b.candidate a.candidate) (λ e. q) (λ e. p)

or_else_of : (P : Entry → Type 0) (x y : Option Entry) → AllOf P x → AllOf P y → AllOf P (or_else x y)
unfolding or_else
or_else_of P none y p q = q
or_else_of P (some a) y p q = better_of P a y p q

all_map : (P R : Entry → Type 0) (x : Option Entry) → ((a : Entry) → P a → R a) → AllOf P x → AllOf R x
all_map P R none f p = tt
all_map P R (some a) f p = f a p

record Among (p : Candidate → Bool) (k : Key) (cs : List Candidate) (a : Entry) : Type 0 where
  key : a.key ≡ k
  passes : p a.candidate ≡ true
  held : has a.candidate.connection cs ≡ true

least-in : (p : Candidate → Bool) (k : Key) (cs : List Candidate) → AllOf (Among p k cs) (least_in p k cs)
unfolding least_in has
least-in p k [] = tt
least-in p k (c ∷ cs) =
    let more = all_map (Among p k cs) (Among p k (c ∷ cs)) (least_in p k cs)
    (λ a x. record { key = x.key; passes = x.passes; held = or_true (eqb c.connection a.candidate.connection) _ x.held }) (least-in p k cs) in
    by_test (AllOf (Among p k (c ∷ cs))) (p c)
    (λ e. better_of _ _ (least_in p k cs) (record { key = refl; passes = e; held = rw (eq-eqb c.connection c.connection refl) }) more)
    (λ e. more)

pub record Chosen (now : ℕ) (t : Table) (l : List Entry) (a : Entry) : Type 0 where
  pub passes : able now t l a.candidate ≡ true
  pub held : has a.candidate.connection (at a.key t).candidates ≡ true

least_at_lem : (now : ℕ) (t : Table) (l : List Entry) (k : Key) → AllOf (Chosen now t l) (least_at (able now t l) k t)
unfolding least_at
least_at_lem now t l k =
    by_test (AllOf (Chosen now t l)) (is_none (at k t).owner)
    (λ e. all_map _ _ (least_in (able now t l) k (at k t).candidates) (λ a x. record { passes = x.passes; held = rw x.key x.held }) (least-in (able now t l) k (at k t).candidates))
    (λ e. tt)

choice_of : (now : ℕ) (t : Table) (l : List Entry) (k : Key) → AllOf (Chosen now t l) (choice now t l k)
unfolding choice
choice_of now t l k = or_else_of _ _ _ (least_at_lem now t l (txid k.hash)) (least_at_lem now t l (wtxid k.hash))

-- ---- an entry that is the choice in every field

same_kind_lem : (x y : Kind) → same_kind x y ≡ true → x ≡ y
same_kind_lem Txid Txid e = refl
same_kind_lem Wtxid Wtxid e = refl
same_kind_lem Txid Wtxid e = never e
same_kind_lem Wtxid Txid e = never e

pub same_key_lem : (a b : Key) → same_key a b ≡ true → a ≡ b
same_key_lem a b e = λ i. record { kind = same_kind_lem a.kind b.kind (and_left _ _ e) i; hash = eqb-true a.hash b.hash (and_right (same_kind a.kind b.kind) _ e) i }

entry_key : (a b : Entry) → same_entry a b ≡ true → a.key ≡ b.key
unfolding same_entry
entry_key a b e = same_key_lem a.key b.key (and_left (same_key a.key b.key) _ e)

entry-connection : (a b : Entry) → same_entry a b ≡ true → a.candidate.connection ≡ b.candidate.connection
unfolding same_entry
entry-connection a b e = eqb-true _ _ (and_left (eqb a.candidate.connection b.candidate.connection) _ (and_right (same_key a.key b.key) _ e))

chosen : (now : ℕ) (t : Table) (a : Entry) (x : Option Entry) → AllOf (Chosen now t []) x → is_choice a x ≡ true
    → (has a.candidate.connection (at a.key t).candidates ≡ true) × (owned_by a.candidate.connection t < max_in_flight)
unfolding able chosen_by
chosen now t a none p e = never e
chosen now t a (some b) p e =
    rw (entry_key a b e, entry-connection a b e) (p.held, omega (arith, ltb-true (owned_by b.candidate.connection t + 0) max_in_flight (and_right (leb b.candidate.ready now) _ p.passes)))

-- ---- claim

-- what a claim takes: a candidate of an unowned hash, whose connection may own one more
pub record Takes (t : Table) (a : Entry) : Type 0 where
  pub free : owned_at a.key.hash t < 1
  pub held : has a.candidate.connection (at a.key t).candidates ≡ true
  pub few : owned_by a.candidate.connection t < max_in_flight

pub takes-means : (now : ℕ) (a : Entry) (t : Table) → takes now a t ≡ true → Takes t a
unfolding takes
takes-means now a t e =
    let z = eqb-true (owned_at a.key.hash t) 0 (and_left (eqb (owned_at a.key.hash t) 0) _ e) in
    let c = chosen now t a (choice now t [] a.key) (choice_of now t [] a.key) (and_right (eqb (owned_at a.key.hash t) 0) _ e) in
    record { free = omega (arith, z); held = c.0; few = c.1 }

pub bounded-take : {m : Limits} {Q : ℕ} {t : Table} (now : ℕ) (a : Entry) → a.key.hash < top → now + request_lifetime < word → Takes t a → Bounded m Q t
    → Bounded m Q (change a.key (owned_until a.candidate.connection (now + request_lifetime)) t)
bounded-take now a s w x b = bounded-own (owns-until a.key a.candidate.connection (now + request_lifetime) w) s (omega (arith, b.room)) b x.held x.free x.few

pub bounded-claim : {m : Limits} {Q : ℕ} {t : Table} (now : ℕ) (l : List Entry) → now + request_lifetime < word → Each EntryTyped l → Bounded m Q t → Bounded m Q (claim now l t).table
unfolding claim
bounded-claim now [] w s b = b
bounded-claim {m} {Q} {t} now (a ∷ l) w s b = bounded-claim {t = if takes now a t then change a.key (owned_until a.candidate.connection (now + request_lifetime)) t else t} now l w s.1
    (by_test (Bounded m Q) (takes now a t) (λ e. bounded-take now a s.0.hash w (takes-means now a t e) b) (λ e. b))
