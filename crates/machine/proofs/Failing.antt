-- How many keys failed_package_claims and transaction_not_found list: at most 100 parents for each place that is given back.
use Prim.Native.Nat.{ℕ, suc, ◌+◌, ◌*◌, ◌≤◌, ◌<◌}
use mathlib.Core.Path.{◌≡◌, refl, sym, ap, ◌∙◌}
use mathlib.Core.Logic.{inl, inr}
use mathlib.Core.Bool.{Bool, true, ◌&&◌}
use mathlib.Core.List.{List, [], ◌∷◌, map}
use mathlib.Core.Option.{Option, none, some}
use native.Mathlib.Omega.{arith}
use lib.Dec.{eqb}
use lib.ListN.{length, length-append, length-map}
use borrow.Author.Tests.{eqb-true, ne_eqb}
use Rattle.ident.specs.declared.ItemKind.{ItemKind}
use Rattle.ident.specs.declared.ItemKind.TheVariants.{Transaction, WitnessTransaction, WTx, Other}
use Rattle.ident.specs.Number.{Key, Item, place, top, txid, wtxid}
use Rattle.machine.specs.Limits.{Limits, max_parents, word, msg_pkg_txns, msg_anc_pkg_info}
use Rattle.machine.specs.State.{Owner, Package, Request, Table, Answer, owner_is, is_some, refused}
use Rattle.machine.specs.Table.{at, one, place_in, places_held}
use Rattle.machine.specs.Fail.{failed, parents_for}
use Rattle.machine.specs.Package.{listed_after, failed_with_parents, info_owned, failed_package_info, awaits_hash, claim_key, some_keys, fail_each, failed_package_claims}
use Rattle.machine.specs.Wrapper.{fail_keyed, is_type, not_found_one, not_found_each, packages_in, not_found}
use Rattle.machine.specs.Sound.{Ordered, Bounded}
use Rattle.machine.specs.Typed.{Each, KeyTyped}
use Rattle.machine.proofs.Tests.{test, by_test, never, and_right}
use Rattle.machine.proofs.Announce.{each_map}
use Rattle.machine.proofs.Fail.{Peer, bounded-failed}
use Rattle.machine.proofs.Package.{bounded-failed_with_parents}
use Rattle.machine.proofs.Wrapper.{bounded-not_found_one, bounded-not_found_each}
use Rattle.machine.proofs.At.{at_here, at_there}
use Rattle.machine.proofs.Alone.{Hold}
use Rattle.machine.proofs.Loosened.{Loosened, loosened_failed, loosened_failed_with_parents}
use Rattle.machine.proofs.Places.{places_loosened, failing_one, failing_held}

-- ---- keys that hold a place as long as the connection owns them

pub record HoldsPlace (n : ℕ) (t : Table) (k : Key) : Type 0 where
  pub small : k.hash < top
  pub place : owner_is n (at k t).owner ≡ true → place_in (at k t).info (at k t).«package» ≡ 1

pub holds_loosened : {p : Option Owner → Bool} {n : ℕ} {t t' : Table} → Loosened p t t' → (k : Key) → HoldsPlace n t k → HoldsPlace n t' k
holds_loosened {p} {n} {t} {t'} l k h = record {
  small = h.small;
  place = λ q. elim (l.hold k h.small) [
    | inl e ↦ ap (λ (x : Hold). place_in x.info x.«package») e ∙ h.place (ap (λ (x : Hold). owner_is n x.owner) (sym e) ∙ q)
    | inr e ↦ never (ap (λ (x : Hold). owner_is n x.owner) (sym e.1) ∙ q)
  ];
}

-- ---- failing each of some keys

-- the keys, and the parents of places given back
pub length-fail_each : {m : Limits} {Q : ℕ} {t : Table} (n now : ℕ) (ks : List Key) → Peer n → now < word → Each KeyTyped ks → Bounded m Q t
    → length (fail_each m n now ks t).keys ≤ length ks + max_parents * places_held t
unfolding fail_each
length-fail_each n now [] p w s b = omega arith
length-fail_each {m} {Q} {t} n now (k ∷ ks) p w s b =
    let a = failed_with_parents m k n now t in
    let rest = length-fail_each {t = (failed_with_parents m k n now t).table} n now ks p w s.1 (bounded-failed_with_parents k n now s.0 p w b) in
    omega (arith, length-append a.keys (fail_each m n now ks a.table).keys, failing_one k n now s.0 p w b, rest)

-- a key with a place fails once, so that its place bounds the key too
pub length-fail_each_held : {m : Limits} {Q : ℕ} {t : Table} (n now : ℕ) (ks : List Key) → Peer n → now < word → Each (HoldsPlace n t) ks → Bounded m Q t
    → length (fail_each m n now ks t).keys ≤ (max_parents + 1) * places_held t
unfolding fail_each
length-fail_each_held n now [] p w s b = omega arith
length-fail_each_held {m} {Q} {t} n now (k ∷ ks) p w s b =
    let a = failed_with_parents m k n now t in
    let l = loosened_failed_with_parents k n now s.0.small p w b in
    let rest = length-fail_each_held {t = (failed_with_parents m k n now t).table} n now ks p w (each_map (HoldsPlace n t) (HoldsPlace n a.table) ks (holds_loosened l) s.1)
    (bounded-failed_with_parents k n now s.0.small p w b) in
    omega (arith, length-append a.keys (fail_each m n now ks a.table).keys, failing_held k n now s.0.small p w b s.0.place, rest)

-- ---- failed_package_claims: every key that is looked up has a package

record ClaimAt (lo : ℕ) (t : Table) (k : Key) : Type 0 where
  from : lo ≤ place k
  small : k.hash < top
  packed : is_some (at k t).«package» ≡ true

abbrev Found : ℕ → Table → Option Key → Type 0
Found lo t none = Unit {0}
Found lo t (some k) = ClaimAt lo t k

awaits_some : (c : ℕ) (p : Option Package) → awaits_hash c p ≡ true → is_some p ≡ true
awaits_some c none e = never e
awaits_some c (some p) e = refl

found_later : (lo : ℕ) (r : Request) (t : Table) (o : Option Key) → lo ≤ place r.key → Found (suc (place r.key)) t o → Found lo (r ∷ t) o
found_later lo r t none h f = tt
found_later lo r t (some k) h f = record { from = omega (arith, f.from); small = f.small; packed = rw (at_there k r t (λ e. omega (arith, f.from))) f.packed }

found_claim : (n c lo : ℕ) (t : Table) → Ordered lo t → Found lo t (claim_key n c t)
unfolding claim_key
found_claim n c lo [] o = tt
found_claim n c lo (r ∷ t) o =
    by_test (Found lo (r ∷ t)) (is_some (claim_key n c t)) (λ e. found_later lo r t (claim_key n c t) o.0 (found_claim n c (suc (place r.key)) t o.2)) λ e.
    by_test (Found lo (r ∷ t)) (owner_is n r.owner && awaits_hash c r.«package»)
    (λ d. record { from = o.0; small = o.1; packed = rw (at_here r.key r t refl) (awaits_some c r.«package» (and_right (owner_is n r.owner) _ d)) }) (λ d. tt)

place-packed : (i : Bool) (p : Option Package) → is_some p ≡ true → place_in i p ≡ 1
place-packed i none e = never e
place-packed i (some p) e = refl

holds_cons : (n : ℕ) (t : Table) (x : Option Key) (l : List (Option Key)) → Found 0 t x → Each (HoldsPlace n t) (some_keys l) → Each (HoldsPlace n t) (some_keys (x ∷ l))
unfolding some_keys
holds_cons n t none l f a = a
holds_cons n t (some k) l f a = (record { small = f.small; place = λ e. place-packed (at k t).info (at k t).«package» f.packed }, a)

pub holds_claims : (n : ℕ) (cs : List ℕ) (t : Table) → Ordered 0 t → Each (HoldsPlace n t) (some_keys (map (λ c. claim_key n c t) cs))
unfolding some_keys
holds_claims n [] t o = tt
holds_claims n (c ∷ cs) t o = holds_cons n t (claim_key n c t) (map (λ c. claim_key n c t) cs) (found_claim n c 0 t o) (holds_claims n cs t o)

length-some_keys : (l : List (Option Key)) → length (some_keys l) ≤ length l
unfolding some_keys
length-some_keys [] = omega arith
length-some_keys (none ∷ l) = omega (arith, length-some_keys l)
length-some_keys (some k ∷ l) = omega (arith, length-some_keys l)

module _ {m : Limits} {Q : ℕ} {t : Table} (n : ℕ) (cs : List ℕ) (now : ℕ) (p : Peer n) (w : now < word) (b : Bounded m Q t) where
  pub length-failed_package_claims : length (failed_package_claims m n cs now t).keys ≤ (max_parents + 1) * places_held t
  unfolding failed_package_claims
  length-failed_package_claims = length-fail_each_held n now _ p w (holds_claims n cs t b.ordered) b

  pub length-claims-named : length (failed_package_claims m n cs now t).keys ≤ length cs + max_parents * places_held t
  unfolding failed_package_claims
  length-claims-named =
      let ks = some_keys (map (λ c. claim_key n c t) cs) in
      omega (
        arith,
        length-fail_each n now ks p w (each_map (HoldsPlace n t) KeyTyped ks (λ k h. h.small) (holds_claims n cs t b.ordered)) b,
        length-some_keys (map (λ c. claim_key n c t) cs),
        length-map cs (λ c. claim_key n c t),
      )

-- ---- transaction_not_found

length-fail_keyed : {m : Limits} {Q : ℕ} {t : Table} (k : Key) (n now : ℕ) → k.hash < top → now < word → Bounded m Q t
    → length (fail_keyed (some k) n now t).keys + max_parents * places_held (fail_keyed (some k) n now t).table ≤ 1 + max_parents * places_held t
length-fail_keyed {m} {Q} {t} k n now s w b =
    let a = failed k n now t in
    let g = places_loosened (bounded-failed k n now s w b).ordered b.ordered (loosened_failed k n now s w b) in
    by_test (λ (ks : List Key). length ks + max_parents * places_held a.table ≤ 1 + max_parents * places_held t) a.reply (λ e. omega arith) (λ e. omega arith)

length-fail_info : {m : Limits} {Q : ℕ} {t : Table} (k : Key) (n now : ℕ) → k.hash < top → Peer n → now < word → Bounded m Q t
    → length (listed_after m k n now (parents_for n (at k t)) (failed_package_info k n now t)).keys + max_parents * places_held
    (listed_after m k n now (parents_for n (at k t)) (failed_package_info k n now t)).table ≤ 1 + max_parents * places_held t
unfolding failed_package_info
length-fail_info {m} {Q} {t} k n now s p w b =
    by_test (λ (a : Answer). length (listed_after m k n now (parents_for n (at k t)) a).keys + max_parents * places_held (listed_after m k n now (parents_for n (at k t)) a).table
    ≤ 1 + max_parents * places_held t) (info_owned n (at k t))
    (λ e. whole) (λ e. nought)
  where
    whole : length (listed_after m k n now (parents_for n (at k t)) (failed k n now t)).keys + max_parents * places_held (listed_after m k n now (parents_for n (at k t)) (failed k n now t)).table
        ≤ 1 + max_parents * places_held t
    whole = unfold failed_with_parents in failing_one k n now s p w b

    nought : length (listed_after m k n now (parents_for n (at k t)) (refused t)).keys + max_parents * places_held (listed_after m k n now (parents_for n (at k t)) (refused t)).table
        ≤ 1 + max_parents * places_held t
    nought = unfold listed_after in omega arith

-- an item lists a key, or names a package
length-not_found_one : {m : Limits} {Q : ℕ} {t : Table} (n now : ℕ) (x : ItemKind) (h : ℕ) → Peer n → now < word → h < top → Bounded m Q t
    → length (not_found_one m n now (record { kind = x; hash = h }) t).keys + one (is_type msg_pkg_txns x) + max_parents * places_held
    (not_found_one m n now (record { kind = x; hash = h }) t).table ≤ 1 + max_parents * places_held t
unfolding not_found_one
length-not_found_one n now Transaction h p w s b = omega (arith, length-fail_keyed (txid h) n now s w b)
length-not_found_one n now WitnessTransaction h p w s b = omega (arith, length-fail_keyed (txid h) n now s w b)
length-not_found_one n now WTx h p w s b = omega (arith, length-fail_keyed (wtxid h) n now s w b)
length-not_found_one {m} {Q} {t} n now (Other x) h p w s b =
    elim (test (eqb x msg_anc_pkg_info)) [
      | inl e ↦ rw (e, ne_eqb x msg_pkg_txns (λ d. omega (arith, eqb-true x msg_anc_pkg_info e))) (omega (arith, length-fail_info (wtxid h) n now s p w b))
      | inr e ↦ rw e (elim (test (eqb x msg_pkg_txns)) [ inl d ↦ rw d (omega arith) | inr d ↦ rw d (omega arith) ])
    ]

length-packages_in : (i : Item) (l : List Item) → length (packages_in (i ∷ l)) ≡ one (is_type msg_pkg_txns i.kind) + length (packages_in l)
unfolding packages_in
length-packages_in i l = elim (test (is_type msg_pkg_txns i.kind)) [ inl e ↦ rw e (omega arith) | inr e ↦ rw e (omega arith) ]

pub length-not_found_each : {m : Limits} {Q : ℕ} {t : Table} (n now : ℕ) (l : List Item) → Peer n → now < word → Each (λ (i : Item). i.hash < top) l → Bounded m Q t
    → length (not_found_each m n now l t).keys + length (packages_in l) + max_parents * places_held (not_found_each m n now l t).table ≤ length l + max_parents * places_held t
unfolding not_found_each packages_in
length-not_found_each n now [] p w s b = omega arith
length-not_found_each {m} {Q} {t} n now (i ∷ l) p w s b =
    let a = not_found_one m n now i t in
    omega (
      arith,
      length-append a.keys (not_found_each m n now l a.table).keys,
      length-packages_in i l,
      length-not_found_one n now i.kind i.hash p w s.0 b,
      length-not_found_each {t = (not_found_one m n now i t).table} n now l p w s.1 (bounded-not_found_one n now i p w s.0 b),
    )

pub length-not_found : {m : Limits} {Q : ℕ} {t : Table} (n now : ℕ) (l : List Item) → Peer n → now < word → Each (λ (i : Item). i.hash < top) l → Bounded m Q t
    → length (not_found m n now l t).keys ≤ length l + max_parents * places_held t
unfolding not_found
length-not_found {m} {Q} {t} n now l p w s b =
    let a = not_found_each m n now l t in
    omega (
      arith,
      length-append a.keys (failed_package_claims m n (packages_in l) now a.table).keys,
      length-not_found_each n now l p w s b,
      length-claims-named n (packages_in l) now p w (bounded-not_found_each n now l p w s b),
    )
