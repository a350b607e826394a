-- The combined hashes that the entries of a list give, and the claims that they find.
use Prim.Native.Nat.{ℕ, zero, suc, ◌+◌, ◌≤◌, ◌<◌}
use mathlib.Core.Path.{◌≡◌, refl, sym, ap, subst, ◌∙◌}
use mathlib.Core.Logic.{inl, inr}
use mathlib.Core.Bool.{Bool}
use mathlib.Core.List.{List, [], ◌∷◌, map}
use mathlib.Core.Option.{Option, none, some}
use native.Mathlib.Omega.{arith}
use lib.ListN.{length, take, get_or, length-map}
use Rattle.std.specs.Prelude as std
use Rattle.std.specs.Bool.{then_some}
use Rattle.ident.specs.declared.Hash.{Hash}
use Rattle.ident.specs.Words.{hash_num}
use Rattle.ident.specs.declared.ItemKind.{ItemKind}
use Rattle.ident.specs.declared.ItemKind.TheVariants.{Transaction, WitnessTransaction, WTx, Other}
use Rattle.ident.specs.contracts.ItemKindPartialEq.TheImpl.{eq-value}
use Rattle.ident.specs.Number.{Key, Item}
use Rattle.machine.specs.Limits.{Limits, msg_pkg_txns}
use Rattle.machine.specs.State.{Table}
use Rattle.machine.specs.Fail.{Listed}
use Rattle.machine.specs.Package.{claim_key, some_keys, fail_each, failed_package_claims}
use Rattle.machine.specs.Wrapper.{is_type, packages_in}
use Rattle.machine.specs.Typed.{Each}
use Rattle.machine.specs.Sound.{All, Lawful, Ordered}
use Rattle.machine.proofs.Tests.{test}
use Rattle.machine.proofs.Failing.{HoldsPlace, holds_claims}
use Rattle.lent_lists.specs.Lists.{hashes_in}
use Rattle.lent_lists.specs.Items.{items_in}
use Rattle.std.specs.Borrow.{Bor}
use Rattle.claims.specs.declared.waiting.Claim.{Claim}
use Rattle.claims.specs.declared.waiting.Given.{Given}
use Rattle.claims.specs.declared.waiting.Given.TheVariants.{Hashes, Items}
use Rattle.claims.specs.Awaited.{ClaimsAre, package_named, entries_in, given_in, hash_found, last_of}
use Rattle.claims.proofs.LastOnes.{last_given}

-- ---- the hashes given

unfoldable pub somes : List (Option ℕ) → List ℕ
somes [] = []
somes (none ∷ l) = somes l
somes (some c ∷ l) = c ∷ somes l

somes_items : (l : List Item) → somes (map package_named l) ≡ packages_in l
unfolding somes packages_in
somes_items [] = refl
somes_items (i ∷ l) = elim (test (is_type msg_pkg_txns i.kind)) [
  | inl e ↦ rw e (ap (λ (x : List ℕ). i.hash ∷ x) (somes_items l))
  | inr e ↦ rw e (somes_items l)
]

somes_hashes : (l : List ℕ) → somes (map some l) ≡ l
unfolding somes
somes_hashes [] = refl
somes_hashes (h ∷ l) = ap (λ (x : List ℕ). h ∷ x) (somes_hashes l)

pub somes_given : (g : Given) → somes (entries_in g) ≡ given_in g
somes_given (Items b) = somes_items (items_in b.now)
somes_given (Hashes b) = somes_hashes (hashes_in b.now)

-- ---- the claims that they find

abbrev pub claim_given : ℕ → Table → Option ℕ → Option Key
claim_given n t none = none
claim_given n t (some c) = claim_key n c t

unfoldable pub claims_given : Limits → ℕ → List (Option ℕ) → ℕ → Table → Listed
claims_given m n os v t = fail_each m n v (some_keys (map (claim_given n t) os)) t

keys-cons : (o : Option Key) (l r : List (Option Key)) → some_keys l ≡ some_keys r → some_keys (o ∷ l) ≡ some_keys (o ∷ r)
unfolding some_keys
keys-cons none l r e = e
keys-cons (some k) l r e = ap (λ (x : List Key). k ∷ x) e

keys-given : (n : ℕ) (t : Table) (os : List (Option ℕ)) → some_keys (map (claim_given n t) os) ≡ some_keys (map (λ c. claim_key n c t) (somes os))
unfolding somes some_keys
keys-given n t [] = refl
keys-given n t (none ∷ os) = keys-given n t os
keys-given n t (some c ∷ os) = keys-cons (claim_key n c t) (map (claim_given n t) os) (map (λ c. claim_key n c t) (somes os)) (keys-given n t os)

pub claims-given : (m : Limits) (n : ℕ) (os : List (Option ℕ)) (v : ℕ) (t : Table) → claims_given m n os v t ≡ failed_package_claims m n (somes os) v t
unfolding claims_given failed_package_claims
claims-given m n os v t = ap (λ (ks : List Key). fail_each m n v ks t) (keys-given n t os)

pub holds_given : (n : ℕ) (os : List (Option ℕ)) (t : Table) → Ordered 0 t → Each (HoldsPlace n t) (some_keys (map (claim_given n t) os))
holds_given n os t o = subst (Each (HoldsPlace n t)) (sym (keys-given n t os)) (holds_claims n (somes os) t o)

pub last_named : {n : ℕ} {t : Table} {cs : List Claim} (o : Option ℕ) → All Lawful t → ClaimsAre n t cs → last_of o cs ≡ claim_given n t o
last_named none l a = refl
last_named (some c) l a = last_given c l a

-- ---- how many they are

key_more : (o : Option Key) (l : List (Option Key)) → length (some_keys (o ∷ l)) ≤ length (some_keys l) + 1
unfolding some_keys
key_more none l = omega arith
key_more (some k) l = omega arith

pub few_keys : (n : ℕ) (t : Table) (os : List (Option ℕ)) → length (some_keys (map (claim_given n t) os)) ≤ length (somes os)
unfolding somes some_keys
few_keys n t [] = omega arith
few_keys n t (none ∷ os) = few_keys n t os
few_keys n t (some c ∷ os) = omega (arith, key_more (claim_key n c t) (map (claim_given n t) os), few_keys n t os)

pub somes_take : (i : ℕ) (os : List (Option ℕ)) → length (somes (take i os)) ≤ length (somes os)
unfolding somes
somes_take zero os = omega arith
somes_take (suc i) [] = omega arith
somes_take (suc i) (none ∷ os) = somes_take i os
somes_take (suc i) (some c ∷ os) = omega (arith, somes_take i os)

-- an entry that finds a claim gives a hash
pub somes_before : (n : ℕ) (t : Table) (k : Key) (i : ℕ) (os : List (Option ℕ)) → i < length os → claim_given n t (get_or os i none) ≡ some k → length (somes (take i os)) + 1 ≤ length (somes os)
unfolding somes
somes_before n t k i [] h e = absurd (omega arith)
somes_before n t k zero (none ∷ os) h e = let z : ◌≡◌ {A = ℕ} 0 1 = cc in absurd (omega arith)
somes_before n t k zero (some c ∷ os) h e = omega arith
somes_before n t k (suc i) (none ∷ os) h e = somes_before n t k i os (omega arith) e
somes_before n t k (suc i) (some c ∷ os) h e = omega (arith, somes_before n t k i os (omega arith) e)

-- ---- an entry by its index

named_at : {A : Type 0} (f : A → Option ℕ) (l : List A) (i : ℕ) (d : A) → i < length l → f (get_or l i d) ≡ get_or (map f l) i none
named_at f [] i d h = absurd (omega arith)
named_at f (x ∷ l) zero d h = refl
named_at f (x ∷ l) (suc i) d h = named_at f l i d (omega arith)

-- the code compares the kind
pub kind-type : (k : ItemKind) (n : ℕ) → eq-value.it k (Other n) ≡ is_type n k
kind-type Transaction n = refl
kind-type WitnessTransaction n = refl
kind-type WTx n = refl
kind-type (Other m) n = refl

pub entries-items : {g : Given} {b : Bor (List ℕ)} → g ≡ Items b → length (items_in b.now) ≡ length (entries_in g)
entries-items {b = b} e = rw e (sym (length-map (items_in b.now) package_named))

named_held : (i : Item) (h : Hash) {held : Bool} → held ≡ is_type msg_pkg_txns i.kind → hash_num h ≡ i.hash → hash_found (then_some held h) ≡ package_named i
named_held i h e q = elim (test (is_type msg_pkg_txns i.kind)) [ inl d ↦ rw (e, d) (ap some q) | inr d ↦ rw (e, d) ]

pub entry-item : {g : Given} {b : Bor (List ℕ)} (i : ℕ) (x : Item) (h : Hash) {held : Bool} {r : std.Option Hash} → g ≡ Items b → i < length (entries_in g)
    → ((d : Item) → x ≡ get_or (items_in b.now) i d) → held ≡ is_type msg_pkg_txns x.kind → hash_num h ≡ x.hash → r ≡ then_some held h → hash_found r ≡ get_or (entries_in g) i none
entry-item {g} {b} i x h e l is q s t =
    let inside : i < length (items_in b.now) = omega (arith, entries-items e, l) in
    rw e (ap hash_found t ∙ named_held x h q s ∙ ap package_named (is x) ∙ named_at package_named (items_in b.now) i x inside)
