-- claim takes an entry if and only if its hash is unowned and it is what plan would choose, in every field; it changes owners alone.
use Prim.Native.Nat.{ℕ}
use mathlib.Core.Path.{◌≡◌, refl, sym, ap, ◌∙◌}
use mathlib.Core.Bool.{Bool, true, false}
use mathlib.Core.List.{[]}
use mathlib.Core.Option.{Option, none, some}
use native.Mathlib.Omega.{arith}
use lib.Dec.{eqb}
use borrow.Author.Tests.{eqb-true, eq-eqb}
use Rattle.ident.specs.declared.Kind.{Kind}
use Rattle.ident.specs.declared.Kind.TheVariants.{Txid, Wtxid}
use Rattle.ident.specs.declared.ItemKind.{ItemKind}
use Rattle.ident.specs.declared.ItemKind.TheVariants.{Transaction, WitnessTransaction, WTx, Other}
use Rattle.ident.specs.Number.{Item}
use Rattle.machine.specs.State.{Candidate, Entry}
use Rattle.machine.specs.Table.{owned_at}
use Rattle.machine.specs.Plan.{choice}
use Rattle.machine.specs.Claim.{same_kind, same_bool, kind_rank, same_item, same_key, same_candidate, same_entry, is_choice, takes}
use Rattle.machine.specs.Choosing.{TakesExact}
use Rattle.machine.proofs.Tests.{never, and_left, and_right}
use Rattle.machine.proofs.Claim.{same_key_lem}

-- ---- "in every field"

same_rank : (x y : ItemKind) → kind_rank x ≡ kind_rank y → x ≡ y
same_rank Transaction Transaction e = refl
same_rank Transaction WitnessTransaction e = absurd (omega arith)
same_rank Transaction WTx e = absurd (omega arith)
same_rank Transaction (Other n) e = absurd (omega arith)
same_rank WitnessTransaction Transaction e = absurd (omega arith)
same_rank WitnessTransaction WitnessTransaction e = refl
same_rank WitnessTransaction WTx e = absurd (omega arith)
same_rank WitnessTransaction (Other n) e = absurd (omega arith)
same_rank WTx Transaction e = absurd (omega arith)
same_rank WTx WitnessTransaction e = absurd (omega arith)
same_rank WTx WTx e = refl
same_rank WTx (Other n) e = absurd (omega arith)
same_rank (Other m) Transaction e = absurd (omega arith)
same_rank (Other m) WitnessTransaction e = absurd (omega arith)
same_rank (Other m) WTx e = absurd (omega arith)
same_rank (Other m) (Other n) e = let d : m ≡ n = omega arith in ap Other d

same_bool_lem : (x y : Bool) → same_bool x y ≡ true → x ≡ y
same_bool_lem true true e = refl
same_bool_lem true false e = never e
same_bool_lem false true e = never e
same_bool_lem false false e = refl

same_item_lem : (a b : Item) → same_item a b ≡ true → a ≡ b
same_item_lem a b e =
    let k = same_rank a.kind b.kind (eqb-true _ _ (and_left (eqb (kind_rank a.kind) (kind_rank b.kind)) _ e)) in
    let h = eqb-true a.hash b.hash (and_right (eqb (kind_rank a.kind) (kind_rank b.kind)) _ e) in
    λ i. record { kind = k i; hash = h i }

same-candidate : (a b : Candidate) → same_candidate a b ≡ true → a ≡ b
same-candidate a b e₀ =
    let e₁ = and_right (eqb a.connection b.connection) _ e₀ in
    let e₂ = and_right (same_item a.item b.item) _ e₁ in
    let e₃ = and_right (eqb a.ready b.ready) _ e₂ in
    let n = eqb-true a.connection b.connection (and_left (eqb a.connection b.connection) _ e₀) in
    let x = same_item_lem a.item b.item (and_left (same_item a.item b.item) _ e₁) in
    let r = eqb-true a.ready b.ready (and_left (eqb a.ready b.ready) _ e₂) in
    let p = same_bool_lem a.preferred b.preferred (and_left (same_bool a.preferred b.preferred) _ e₃) in
    let q = eqb-true a.priority b.priority (and_right (same_bool a.preferred b.preferred) _ e₃) in
    λ i. record { connection = n i; item = x i; ready = r i; preferred = p i; priority = q i }

pub same-entry : (a b : Entry) → same_entry a b ≡ true → a ≡ b
unfolding same_entry
same-entry a b e =
    let k = same_key_lem a.key b.key (and_left (same_key a.key b.key) _ e) in
    let c = same-candidate a.candidate b.candidate (and_right (same_key a.key b.key) _ e) in
    λ i. record { key = k i; candidate = c i }

-- ---- an entry is the same as itself

pub kind-itself : (x : Kind) → same_kind x x ≡ true
kind-itself Txid = refl
kind-itself Wtxid = refl

pub bool-itself : (x : Bool) → same_bool x x ≡ true
bool-itself true = refl
bool-itself false = refl

pub itself : (n : ℕ) → eqb n n ≡ true
itself n = eq-eqb n n refl

pub entry-itself : (a : Entry) → same_entry a a ≡ true
unfolding same_entry
entry-itself a =
    let c = a.candidate in
    rw (kind-itself a.key.kind, itself a.key.hash, itself c.connection, itself (kind_rank c.item.kind), itself c.item.hash)
    (rw (itself c.ready, bool-itself c.preferred, itself c.priority))

-- ---- claim

is_the-choice : (a : Entry) (o : Option Entry) → is_choice a o ≡ true → o ≡ some a
is_the-choice a none e = never e
is_the-choice a (some b) e = ap some (sym (same-entry a b e))

pub takes_exact : TakesExact
unfolding takes
takes_exact now a t = record {
  only = λ e.
      (eqb-true (owned_at a.key.hash t) 0 (and_left (eqb (owned_at a.key.hash t) 0) _ e), is_the-choice a (choice now t [] a.key) (and_right (eqb (owned_at a.key.hash t) 0) _ e));
  all = λ z e. rw (eq-eqb (owned_at a.key.hash t) 0 z) (ap (is_choice a) e ∙ entry-itself a);
}
