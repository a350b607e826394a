-- A connection that owns nothing: nothing of it fails.
use Prim.Native.Nat.{ℕ}
use mathlib.Core.Path.{◌≡◌, refl, ap}
use mathlib.Core.Logic.{inl, inr}
use mathlib.Core.Bool.{false}
use mathlib.Core.List.{List, [], ◌∷◌, map}
use mathlib.Core.Option.{Option, none, some}
use native.Mathlib.Omega.{arith}
use lib.Dec.{eqb}
use Rattle.ident.specs.Number.{Key, Item, place, key_of, wtxid}
use Rattle.machine.specs.Limits.{Limits, msg_anc_pkg_info}
use Rattle.machine.specs.State.{Owner, Request, Table, limits_of, owner_is}
use Rattle.machine.specs.Table.{at, one, total, owner_in, owned_by}
use Rattle.machine.specs.Fail.{Listed, nothing, failed, parents_for}
use Rattle.machine.specs.Package.{listed_after, failed_package_info, claim_key, some_keys, fail_each, failed_package_claims}
use Rattle.machine.specs.Wrapper.{fail_keyed, is_type, not_found_one, not_found_each, packages_in, not_found}
use Rattle.machine.proofs.Tests.{test, by_test}
use Rattle.requests.specs.Changes.{Tells}
use Rattle.announcing.specs.Answers.{KeysListed}
use Rattle.wrapping.proofs.Unfound.{listed_as, nothing-listed}

owns_not : (n : ℕ) (o : Option Owner) → owner_in (λ m. eqb m n) o ≡ 0 → owner_is n o ≡ false
owns_not n none h = refl
owns_not n (some o) h = elim (test (eqb o.connection n)) [ inl e ↦ absurd (omega (arith, ap one e)) | inr e ↦ e ]

-- ---- an item

module _ (m : Limits) (n now : ℕ) (t : Table) where
  -- the request at k is not owned by n: no item with that key fails
  keyed_not : (k : Key) → owner_is n (at k t).owner ≡ false → fail_keyed (some k) n now t ≡ nothing t
  unfolding failed
  keyed_not k f = rw f

  key_not : (o : Option Key) → ((k : Key) → owner_is n (at k t).owner ≡ false) → fail_keyed o n now t ≡ nothing t
  key_not none f = refl
  key_not (some k) f = keyed_not k (f k)

  info_not : (k : Key) → owner_is n (at k t).owner ≡ false → listed_after m k n now (parents_for n (at k t)) (failed_package_info k n now t) ≡ nothing t
  unfolding listed_after failed_package_info
  info_not k f = elim (test (at k t).info) [ inl e ↦ rw (e, f) | inr e ↦ rw e ]

  one_not : (i : Item) → ((k : Key) → owner_is n (at k t).owner ≡ false) → not_found_one m n now i t ≡ nothing t
  unfolding not_found_one
  one_not i f =
      by_test (λ (x : Listed). x ≡ nothing t) (is_type msg_anc_pkg_info i.kind) (λ e. info_not (wtxid i.hash) (f (wtxid i.hash))) (λ e. key_not (key_of i) f)

-- ---- all items, and the packages among them

at_idle : (n : ℕ) (k : Key) (t : Table) → owned_by n t ≡ 0 → owner_is n (at k t).owner ≡ false
unfolding at total
at_idle n k [] h = refl
at_idle n k (r ∷ t) h = by_test (λ (q : Request). owner_is n q.owner ≡ false) (eqb (place k) (place r.key)) (λ e. owns_not n r.owner (omega arith)) (λ e. at_idle n k t (omega arith))

each_idle : (m : Limits) (n now : ℕ) (l : List Item) (t : Table) → owned_by n t ≡ 0 → not_found_each m n now l t ≡ nothing t
unfolding not_found_each
each_idle m n now [] t h = refl
each_idle m n now (i ∷ l) t h = rw (one_not m n now t i (λ k. at_idle n k t h), each_idle m n now l t h)

claim_idle : (n c : ℕ) (t : Table) → owned_by n t ≡ 0 → claim_key n c t ≡ none
unfolding claim_key total
claim_idle n c [] h = refl
claim_idle n c (r ∷ t) h = rw (claim_idle n c t (omega arith), owns_not n r.owner (omega arith))

claims_idle : (n : ℕ) (t : Table) (cs : List ℕ) → owned_by n t ≡ 0 → some_keys (map (λ c. claim_key n c t) cs) ≡ []
unfolding some_keys
claims_idle n t [] h = refl
claims_idle n t (c ∷ cs) h = rw (claim_idle n c t h, claims_idle n t cs h)

packages_idle : (m : Limits) (n now : ℕ) (cs : List ℕ) (t : Table) → owned_by n t ≡ 0 → failed_package_claims m n cs now t ≡ nothing t
unfolding failed_package_claims fail_each
packages_idle m n now cs t h = rw (claims_idle n t cs h)

all_idle : (m : Limits) (n now : ℕ) (l : List Item) (t : Table) → owned_by n t ≡ 0 → nothing t ≡ not_found m n now l t
unfolding not_found
all_idle m n now l t h = rw (each_idle m n now l t h, packages_idle m n now (packages_in l) t h)

pub idle_listed : {b u : List ℕ} (n now : ℕ) (l : List Item) → Tells b (λ t. owned_by n t ≡ 0) → KeysListed b b u u 0 (λ m t. not_found m n now l t)
idle_listed {b} {u} n now l h =
    listed_as (λ m t. nothing t) (λ m t. not_found m n now l t)
    (λ st s w. all_idle (limits_of st) n now l st.table (h st s w)) (nothing-listed b u)
