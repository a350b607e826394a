-- The last claim with a combined hash: the machine's is found among those noted, from the back.
use Prim.Native.Nat.{ℕ}
use mathlib.Core.Path.{◌≡◌, refl, sym, ap, ◌∙◌}
use mathlib.Core.Logic.{inl, inr}
use mathlib.Core.Bool.{Bool, true, false, cond, ◌&&◌}
use mathlib.Core.List.{List, [], ◌∷◌, map, reverse, reverse-cons}
use mathlib.Core.Option.{Option, none, some}
use lib.Dec.{eqb}
use Rattle.std.specs.List.{find}
use Rattle.std.specs.Option.{option_or}
use Rattle.std.specs.Prelude as std
use Rattle.std.specs.Prelude.{Some, None, if◌then◌else◌}
use Rattle.std.proofs.lemmas.List.Folds.{find-append}
use Rattle.ident.specs.declared.Kind.{Kind}
use Rattle.ident.specs.declared.Kind.TheVariants.{Wtxid}
use Rattle.ident.specs.Number.{Key, wtxid}
use Rattle.ident.specs.Words.{hash_num}
use Rattle.machine.specs.State.{Package, Request, Table, owner_is, is_some}
use Rattle.machine.specs.Package.{awaits_hash, claim_key}
use Rattle.machine.specs.Sound.{All, Lawful}
use Rattle.machine.proofs.Tests.{test, never, and_left, and_right}
use Rattle.package_stages.specs.Changes.{combined_of}
use Rattle.package_stages.specs.Dead.{filter}
use Rattle.package_stages.proofs.Seeking.{holding}
use Rattle.claims.specs.declared.waiting.Claim.{Claim}
use Rattle.claims.specs.Awaited.{awaiting, is_claim, claims_in, hash_of, sum_of, last_among, noted_keys, noted_sums, ClaimsAre}
use Rattle.claims.proofs.Noting.{awaiting-place}

-- ---- the machine's

abbrev pick : Option Key → Bool → Key → Option Key
pick later b k = if is_some later then later else if b then some k else none

pick_none : (o : Option Key) (k : Key) → pick o false k ≡ o
pick_none none k = refl
pick_none (some x) k = refl

awaits_is : (c : ℕ) (p : Option Package) → awaits_hash c p ≡ (awaiting p && eqb (combined_of p) c)
awaits_is c none = refl
awaits_is c (some p) = refl

both : (o a e : Bool) → (o && a) ≡ true → (o && (a && e)) ≡ e
both o a e h = rw (and_left o a h, and_right o a h)

neither : (o a e : Bool) → (o && a) ≡ false → (o && (a && e)) ≡ false
neither true true e h = never (sym h)
neither true false e h = refl
neither false a e h = refl

key-wtxid : (q : Request) → q.key.kind ≡ Wtxid → q.key ≡ wtxid (hash_of q)
key-wtxid q e = ap (λ (j : Kind). record { kind = j; hash = q.key.hash }) e

pub last_claim : (n c : ℕ) (t : Table) → All Lawful t → claim_key n c t ≡ last_among c (map hash_of (claims_in n t)) (map sum_of (claims_in n t))
unfolding claim_key last_among filter
last_claim n c [] l = refl
last_claim n c (q ∷ t) l =
    let later = last_among c (map hash_of (claims_in n t)) (map sum_of (claims_in n t)) in
    let o = owner_is n q.owner in
    let a = awaiting q.«package» in
    let test-is : (o && awaits_hash c q.«package») ≡ (o && (a && eqb (sum_of q) c)) = ap (λ (x : Bool). o && x) (awaits_is c q.«package») in
    elim (test (is_claim n q)) [
      | inl e ↦ rw e (
          ap (λ (x : Option Key). pick x (o && awaits_hash c q.«package») q.key) (last_claim n c t l.1)
          ∙ ap (λ (x : Bool). pick later x q.key) (test-is ∙ both o a (eqb (sum_of q) c) e)
          ∙ ap (λ (x : Key). pick later (eqb (sum_of q) c) x) (key-wtxid q (holding q l.0 (awaiting-place q (and_right o a e))).kind))
      | inr e ↦ rw e (
          ap (λ (x : Option Key). pick x (o && awaits_hash c q.«package») q.key) (last_claim n c t l.1)
          ∙ ap (λ (x : Bool). pick later x q.key) (test-is ∙ neither o a (eqb (sum_of q) c) e)
          ∙ pick_none later q.key)
    ]

pub last_given : {n : ℕ} {t : Table} {cs : List Claim} (c : ℕ) → All Lawful t → ClaimsAre n t cs → last_among c (noted_keys cs) (noted_sums cs) ≡ claim_key n c t
last_given {n} {t} {cs} c l a = ap (λ (z : List ℕ). last_among c z (noted_sums cs)) a.keys-are ∙ ap (λ (z : List ℕ). last_among c (map hash_of (claims_in n t)) z) a.sums-are ∙ sym (last_claim n c t l)

-- ---- from the back

-- the claim is of the combined hash c
abbrev pub sums_to : ℕ → Claim → Bool
sums_to c x = eqb (hash_num x.combined) c

abbrev pub key_of : std.Option Claim → Option Key
key_of None = none
key_of (Some x) = some (wtxid (hash_num x.key))

first : (b : Bool) (x : Claim) → key_of (cond b (Some x) None) ≡ pick none b (wtxid (hash_num x.key))
first true x = refl
first false x = refl

before : (b : Bool) (x : Claim) (o : std.Option Claim) → key_of (option_or o (cond b (Some x) None)) ≡ pick (key_of o) b (wtxid (hash_num x.key))
before b x (Some y) = refl
before b x None = first b x

pub last_found : (c : ℕ) (cs : List Claim) → key_of (find (sums_to c) (reverse cs)) ≡ last_among c (noted_keys cs) (noted_sums cs)
unfolding last_among
last_found c [] = refl
last_found c (x ∷ cs) =
    ap (λ (l : List Claim). key_of (find (sums_to c) l)) (reverse-cons x cs)
    ∙ ap key_of (find-append (sums_to c) (reverse cs) (x ∷ []))
    ∙ before (sums_to c x) x (find (sums_to c) (reverse cs))
    ∙ ap (λ (o : Option Key). pick o (sums_to c x) (wtxid (hash_num x.key))) (last_found c cs)
