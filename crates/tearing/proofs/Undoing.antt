-- teardown_package_claims: the machine's comes to one pass over the table.
use Prim.Native.Nat.{ℕ, suc, ◌≤◌, ◌<◌}
use mathlib.Core.Path.{◌≡◌, refl, sym, ap, subst, ◌∙◌}
use mathlib.Core.Logic.{inl, inr}
use mathlib.Core.Bool.{Bool, true, false}
use mathlib.Core.List.{List, [], ◌∷◌}
use mathlib.Core.Option.{Option, none, some}
use native.Mathlib.Omega.{arith}
use lib.ListN.{length}
use borrow.Author.Tests.{eq-eqb}
use Rattle.std.specs.Prelude.{if◌then◌else◌}
use Rattle.ident.specs.Number.{top, Key, place, other}
use Rattle.machine.specs.Limits.{Limits, word}
use Rattle.machine.specs.State.{Owner, Request, Table, owner_is, is_some}
use Rattle.machine.specs.Table.{at, change}
use Rattle.machine.specs.Fail.{left}
use Rattle.machine.specs.Package.{package_keys, left_if_owned, Torn, tear_one, tear_each, teardown}
use Rattle.machine.specs.Sound.{Ordered, All, Lawful, Bounded}
use Rattle.machine.specs.Typed.{Each}
use Rattle.machine.proofs.Tests.{test, never}
use Rattle.machine.proofs.Table.{lawful_at, ordered-change, filled-change}
use Rattle.machine.proofs.At.{at_here, at_there, at_other, other_place}
use Rattle.machine.proofs.Expired.{owned_once, owner_not}
use Rattle.machine.proofs.Package.{shrinks_left_if_owned, bounded-tear_one}
use Rattle.machine.proofs.First.{change_first as change-here, change-later as change-there}
use Rattle.machine.proofs.KeptAtZero.{packed-owned as owned}
use Rattle.package_stages.specs.Changes.{owner_num}
use Rattle.failing.proofs.Fusing.{change_same, change_none}
use Rattle.tearing.specs.Torn.{quit, torn_all}
use Rattle.tearing.proofs.Tearing.{quit-bare, torn_step, keys-keep, cons_some, torn_none, keys_from}

-- ---- the first package

record First (k : Key) (ks : List Key) (v : ℕ) (t : Table) : Type 0 where
  packed : is_some (at k t).«package» ≡ true
  rest : package_keys (change k (quit v) t) ≡ ks
  small : k.hash < top

keys-bare : (q : Request) (t : Table) → is_some q.«package» ≡ false → package_keys (q ∷ t) ≡ package_keys t
unfolding package_keys
keys-bare q t e = rw e

keys-packed : (q : Request) (t : Table) → is_some q.«package» ≡ true → package_keys (q ∷ t) ≡ q.key ∷ package_keys t
unfolding package_keys
keys-packed q t e = rw e

no_keys : package_keys [] ≡ []
unfolding package_keys
no_keys = refl

first_key : (k : Key) (ks : List Key) (v lo : ℕ) (t : Table) → Ordered lo t → All Lawful t → package_keys t ≡ k ∷ ks → First k ks v t
first_key k ks v lo [] o l e = cons_some (sym e ∙ no_keys)
first_key k ks v lo (q ∷ t) o l e =
    elim (test (is_some q.«package»)) [
      | inl p ↦
          let both : q.key ∷ package_keys t ≡ k ∷ ks = sym (keys-packed q t p) ∙ e in
          let h : q.key ≡ k = cc in
          let r : package_keys t ≡ ks = cc in
          let f : First q.key (package_keys t) v (q ∷ t) = record {
            packed = rw (at_here q.key q t refl) p;
            rest = ap package_keys (change-here q.key (quit v) q t refl) ∙ keys-keep (quit v q) (quit v q).candidates t (quit-bare v q q.owner refl (owned q l.0 p));
            small = o.1;
          } in
          subst (λ (x : List Key). First k x v (q ∷ t)) r (subst (λ (x : Key). First x (package_keys t) v (q ∷ t)) h f)
      | inr p ↦
          let e' : package_keys t ≡ k ∷ ks = sym (keys-bare q t p) ∙ e in
          let f = first_key k ks v (suc (place q.key)) t o.2 l.1 e' in
          let from : Each (λ j. suc (place q.key) ≤ place j) (k ∷ ks) = rw e' at (keys_from (suc (place q.key)) t o.2) in
          record {
            packed = rw (at_there k q t (λ z. omega (arith, from.0))) f.packed;
            rest = ap package_keys (change-there k (quit v) q t (omega (arith, from.0))) ∙ keys-bare q (change k (quit v) t) p ∙ f.rest;
            small = f.small;
          }
    ]

-- ---- the machine's tearing of one key: the other kind is not owned

left_own : (n v : ℕ) (r : Request) → owner_is n r.owner ≡ true → owner_num r.owner ≡ n → left_if_owned n v r ≡ quit v r
unfolding left_if_owned
left_own n v r e q = rw e (ap (λ (x : ℕ). left x v r) (sym q))

left_free : (n v : ℕ) (r : Request) → owner_is n r.owner ≡ false → left_if_owned n v r ≡ r
unfolding left_if_owned
left_free n v r e = rw e

module _ {m : Limits} {Q : ℕ} {t : Table} (k : Key) (v : ℕ) (small : k.hash < top) (late : v < word) (b : Bounded m Q t) (packed : is_some (at k t).«package» ≡ true) where
  pub tear-one : tear_one (at k t).owner k v t ≡ change k (quit v) t
  tear-one = go (at k t).owner refl (owned (at k t) (lawful_at k t b.lawful) packed)
    where
      go : (o : Option Owner) → (at k t).owner ≡ o → is_some o ≡ true → tear_one o k v t ≡ change k (quit v) t
      go none q h = never h
      go (some o) q h =
          let n : ℕ = o.connection in
          let t₁ = change k (left_if_owned n v) t in
          let kk = (shrinks_left_if_owned n v late).key in
          let own : owner_is n (at k t).owner ≡ true = ap (owner_is n) q ∙ eq-eqb n n refl in
          let here : left_if_owned n v (at k t) ≡ quit v (at k t) = left_own n v (at k t) own (ap owner_num q) in
          let there : at (other k) t₁ ≡ at (other k) t = at_other (other k) k (left_if_owned n v) t kk (other_place k small) in
          let free : owner_is n (at (other k) t₁).owner ≡ false = ap (λ (r : Request). owner_is n r.owner) there ∙ owner_not n (at (other k) t).owner (owned_once k small b (ap is_some q)) in
          change_none (other k) (left_if_owned n v) 0 t₁ (ordered-change k (left_if_owned n v) 0 t kk (omega arith) small b.ordered) (filled-change k (left_if_owned n v) t b.filled)
          (left_free n v (at (other k) t₁) free)
          ∙ change_same k (left_if_owned n v) (quit v) 0 t b.ordered here

  pub bounded-quit : Bounded m Q (change k (quit v) t)
  bounded-quit = subst (Bounded m Q) tear-one (bounded-tear_one (at k t).owner k v small late b)

-- ---- the whole

abbrev onemore : Bool → Torn → Torn
onemore b r = record { cleared = if b then suc r.cleared else r.cleared; table = r.table }

tear_is : {m : Limits} {Q : ℕ} (v : ℕ) → v < word → (ks : List Key) (t : Table) → Bounded m Q t → package_keys t ≡ ks → tear_each v ks t ≡ record { cleared = length ks; table = torn_all v t }
unfolding tear_each
tear_is v late [] t b e = ap (λ (x : Table). record { cleared = 0; table = x }) (sym (torn_none v t b.filled e))
tear_is {m} {Q} v late (k ∷ ks) t b e =
    let f = first_key k ks v 0 t b.ordered b.lawful e in
    let own : is_some (at k t).owner ≡ true = owned (at k t) (lawful_at k t b.lawful) f.packed in
    let ih = tear_is {m = m} {Q = Q} v late ks (change k (quit v) t) (bounded-quit k v f.small late b f.packed) f.rest in
    ap (λ (x : Table). onemore (is_some (at k t).owner) (tear_each v ks x)) (tear-one k v f.small late b f.packed)
    ∙ ap (onemore (is_some (at k t).owner)) ih
    ∙ ap (λ (x : Bool). onemore x (record { cleared = length ks; table = torn_all v (change k (quit v) t) })) own
    ∙ ap (λ (x : Table). record { cleared = suc (length ks); table = x }) (torn_step k v 0 t b.ordered b.lawful f.packed)

pub teardown_is : {m : Limits} {Q : ℕ} (v : ℕ) → v < word → (t : Table) → Bounded m Q t → teardown v t ≡ record { cleared = length (package_keys t); table = torn_all v t }
unfolding teardown
teardown_is v late t b = tear_is v late (package_keys t) t b refl
