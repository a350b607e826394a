-- The rows and the places of the table that teardown_package_claims leaves.
use Prim.Native.Nat.{ℕ, suc, ◌+◌, ◌≤◌}
use mathlib.Core.Path.{◌≡◌, refl, sym, ap, ◌∙◌}
use mathlib.Core.Logic.{inl, inr}
use mathlib.Core.Bool.{Bool, true, false}
use mathlib.Core.List.{List, [], ◌∷◌, ◌++◌, map}
use mathlib.Core.Option.{Option, none, some}
use native.Mathlib.Omega.{arith}
use lib.Dec.{leb, eqb}
use lib.ListN.{length, length-append}
use borrow.Author.Tests.{eqb-true, eqb-false, eq-eqb, ne_eqb}
use Rattle.std.specs.Prelude.{if◌then◌else◌}
use Rattle.ident.specs.Number.{Key, place}
use Rattle.regions.specs.declared.Row.{Row}
use Rattle.regions.specs.Regions.{each}
use Rattle.regions.specs.Rows.{quad_of, with_ready}
use Rattle.regions.proofs.Regions.{each_append}
use Rattle.places.specs.Places.{Place}
use Rattle.machine.specs.State.{Candidate, Owner, Package, Request, Table, with_candidates, unowned, ready_at, owner_is, is_some}
use Rattle.machine.specs.Table.{at, keep, has, count_in, one}
use Rattle.machine.specs.Announce.{without}
use Rattle.machine.specs.Fail.{left}
use Rattle.machine.specs.Package.{package_keys}
use Rattle.machine.specs.Sound.{Ordered, All, Lawful}
use Rattle.machine.proofs.Tests.{test, never}
use Rattle.machine.proofs.At.{at_here, at_there}
use Rattle.machine.proofs.KeptAtZero.{packed-owned as owned}
use Rattle.store.specs.Flat.{bits_of, witness_bit, deadline_for, row_of, rows_for, rows_of, place_for, places_for, places_of}
use Rattle.store.specs.Gather.{key_at}
use Rattle.store.proofs.Bits.{key_row, owns-row}
use Rattle.store.proofs.Counts.{Distinct, DistinctIn, in_hasnt}
use Rattle.store.proofs.Split.{places_none}
use Rattle.package_stages.specs.Changes.{owner_num}
use Rattle.package_stages.specs.Dead.{filter}
use Rattle.package_stages.proofs.Compacting.{filter-append}
use Rattle.tearing.specs.Torn.{quit, torn_in, torn_all, packaged_row, torn_row, torn_rows, is_package, flagged}

-- ---- a request that a table has at its key

record Found (T : Table) (lo : ℕ) (q : Request) : Type 0 where
  least : lo ≤ place q.key
  here : (k : Key) → place k ≡ place q.key → at k T ≡ q

all_by : (P R : Request → Type 0) (t : Table) → ((q : Request) → P q → R q) → All P t → All R t
all_by P R [] f a = tt
all_by P R (q ∷ t) f a = (f q a.0, all_by P R t f a.1)

found_all : (lo : ℕ) (t : Table) → Ordered lo t → All (Found t lo) t
found_all lo [] o = tt
found_all lo (q ∷ t) o = (
  record { least = o.0; here = λ k e. at_here k q t e },
  all_by (Found t (suc (place q.key))) (Found (q ∷ t) lo) t (λ r f. record { least = omega (arith, f.least, o.0); here = λ k e. at_later k r f e }) (found_all (suc (place q.key)) t o.2),
)
  where
    at_later : (k : Key) (r : Request) → Found t (suc (place q.key)) r → place k ≡ place r.key → at k (q ∷ t) ≡ r
    at_later k r f e = at_there k q t (λ z. omega (arith, f.least)) ∙ f.here k e

-- ---- one request

-- who owns it leaves it
left_is : (now : ℕ) (q : Request) (o : Owner) → q.owner ≡ some o → left o.connection now q ≡ with_candidates (map (ready_at now) (without o.connection q.candidates)) (unowned q)
unfolding left
left_is now q o own =
    ap (λ (b : Bool). with_candidates (map (ready_at now) (without o.connection q.candidates)) (if b then unowned q else q))
    (ap (owner_is o.connection) own ∙ eq-eqb o.connection o.connection refl)

module _ (now : ℕ) (T : Table) (q : Request) (f : (k : Key) → place k ≡ place q.key → at k T ≡ q) where
  row-packaged : (c : Candidate) → packaged_row T (row_of q c) ≡ is_some q.«package»
  row-packaged c = ap (λ (r : Request). is_some r.«package») (f (key_at (row_of q c)) (ap place (key_row q c)))

  -- no package: they stay
  same_row : is_some q.«package» ≡ false → (c : Candidate) → torn_row now T (row_of q c) ≡ row_of q c ∷ []
  unfolding torn_row
  same_row e c = rw (row-packaged c ∙ e)

  same_rows : is_some q.«package» ≡ false → (cs : List Candidate) → each (torn_row now T) (map (row_of q) cs) ≡ map (row_of q) cs
  unfolding each
  same_rows e [] = refl
  same_rows e (c ∷ cs) = rw (same_row e c, same_rows e cs)

  same_all : is_some q.«package» ≡ false → each (torn_row now T) (rows_for q) ≡ rows_for q
  unfolding rows_for
  same_all e = same_rows e q.candidates

  module _ (e : is_some q.«package» ≡ true) (o : Owner) (own : q.owner ≡ some o) where
    -- that of the owner goes
    owner-row : (c : Candidate) → eqb o.connection c.connection ≡ true → torn_row now T (row_of q c) ≡ []
    unfolding torn_row
    owner-row c z = rw (row-packaged c ∙ e, owns-row q c ∙ ap (owner_is c.connection) own ∙ z)

    -- a row, by what it says of the owner
    mk : Candidate → ℕ → Bool → Row
    mk c d w =
        let bits = bits_of q.key.kind (witness_bit c.item.kind) c.preferred w q.fallback in
        record { hash = quad_of q.key.hash; conn = c.connection; ready = now; prio = c.priority; deadline = d; bits = bits }

    readied : (c : Candidate) → eqb o.connection c.connection ≡ false → with_ready now (row_of q c) ≡ row_of (unowned q) (ready_at now c)
    unfolding row_of mk
    readied c z =
        ap (λ (x : Option Owner). mk c (deadline_for c.connection x) (owner_is c.connection x)) own
        ∙ ap (λ (b : Bool). mk c (if b then o.deadline else 0) b) z

    other_row : (c : Candidate) → eqb o.connection c.connection ≡ false → torn_row now T (row_of q c) ≡ row_of (unowned q) (ready_at now c) ∷ []
    unfolding torn_row
    other_row c z = rw (row-packaged c ∙ e, owns-row q c ∙ ap (owner_is c.connection) own ∙ z) (ap (λ (r : Row). r ∷ []) (readied c z))

    abbrev new : List Candidate → List Row
    new cs = map (row_of (unowned q)) (map (ready_at now) cs)

    turned : (m n : ℕ) (b : Bool) → eqb m n ≡ b → eqb n m ≡ b
    turned m n true z = eq-eqb n m (sym (eqb-true m n z))
    turned m n false z = ne_eqb n m (λ y. eqb-false m n z (sym y))

    others : (cs : List Candidate) → has o.connection cs ≡ false → each (torn_row now T) (map (row_of q) cs) ≡ new cs
    unfolding each has
    others [] h = refl
    others (c ∷ cs) h =
        elim (test (eqb c.connection o.connection)) [
          | inl z ↦ never (sym (rw z at h))
          | inr z ↦ rw (other_row c (turned c.connection o.connection false z), others cs (rw z at h))
        ]

    torn_cands : (cs : List Candidate) → Distinct cs → each (torn_row now T) (map (row_of q) cs) ≡ new (without o.connection cs)
    unfolding each without
    torn_cands [] d = refl
    torn_cands (c ∷ cs) d =
        elim (test (eqb c.connection o.connection)) [
          | inl z ↦ rw (z, owner-row c (turned c.connection o.connection true z)) (others cs (in_hasnt o.connection cs (alone z)))
          | inr z ↦ rw (z, other_row c (turned c.connection o.connection false z), torn_cands cs (λ n. fewer n))
        ]
      where
        fewer : (n : ℕ) → count_in (λ m. eqb m n) cs ≤ 1
        fewer n = let l = d n in unfold count_in in omega (arith, l)

        alone : eqb c.connection o.connection ≡ true → count_in (λ m. eqb m o.connection) cs ≡ 0
        alone z = let l = d o.connection in unfold count_in in omega (arith, rw z at l)

    torn-owned : Distinct q.candidates → each (torn_row now T) (rows_for q) ≡ rows_for (left o.connection now q)
    unfolding rows_for
    torn-owned d =
        let cs = map (ready_at now) (without o.connection q.candidates) in
        torn_cands q.candidates d ∙ sym (ap (λ (r : Request). map (row_of r) r.candidates) (left_is now q o own) ∙ with_cands cs cs)
      where
        with_cands : (xs cs : List Candidate) → map (row_of (with_candidates xs (unowned q))) cs ≡ map (row_of (unowned q)) cs
        with_cands xs cs = unfold row_of in refl

  rows-torn : Lawful q → DistinctIn q → each (torn_row now T) (rows_for q) ≡ rows_for (torn_in now q)
  rows-torn l d =
      elim (test (is_some q.«package»)) [
        | inl e ↦ by_owner q.owner refl (owned q l e) e
        | inr e ↦ same_all e ∙ sym (ap (λ (b : Bool). rows_for (if b then quit now q else q)) e)
      ]
    where
      by_owner : (o : Option Owner) → q.owner ≡ o → is_some o ≡ true → is_some q.«package» ≡ true → each (torn_row now T) (rows_for q) ≡ rows_for (torn_in now q)
      by_owner none w z e = never z
      by_owner (some o) w z e = torn-owned e o w d ∙ sym (ap (λ (b : Bool). rows_for (if b then quit now q else q)) e ∙ ap (λ (x : Option Owner). rows_for (left (owner_num x) now q)) w)

-- ---- all rows

keep-rows : (r : Request) (cs : List Candidate) (t : Table) → r.candidates ≡ cs → rows_of (keep r cs t) ≡ rows_for r ++ rows_of t
unfolding keep each rows_for
keep-rows r [] t e = rw e
keep-rows r (c ∷ cs) t e = refl

torn-all : (now lo : ℕ) (T t : Table) → All (Found T lo) t → All Lawful t → All DistinctIn t → each (torn_row now T) (rows_of t) ≡ rows_of (torn_all now t)
unfolding torn_all
torn-all now lo T [] f l d = unfold each in refl
torn-all now lo T (q ∷ t) f l d =
    first
    ∙ each_append (torn_row now T) (rows_for q) (rows_of t)
    ∙ ap (λ (x : List Row). x ++ each (torn_row now T) (rows_of t)) (rows-torn now T q f.0.here l.0 d.0)
    ∙ ap (λ (x : List Row). rows_for (torn_in now q) ++ x) (torn-all now lo T t f.1 l.1 d.1)
    ∙ sym (keep-rows (torn_in now q) (torn_in now q).candidates (torn_all now t) refl)
  where
    first : each (torn_row now T) (rows_of (q ∷ t)) ≡ each (torn_row now T) (rows_for q ++ rows_of t)
    first = ap (each (torn_row now T)) (unfold each in refl)

pub rows_left_lem : (now : ℕ) (t : Table) → Ordered 0 t → All Lawful t → All DistinctIn t → rows_of (torn_all now t) ≡ torn_rows now t
rows_left_lem now t o l d = sym (torn-all now 0 t t (found_all 0 t o) l d)

-- ---- places

keep-places : (r : Request) (cs : List Candidate) (t : Table) → (cs ≡ [] → places_for r ≡ []) → places_of (keep r cs t) ≡ places_for r ++ places_of t
unfolding keep each
keep-places r [] t h = rw (h refl)
keep-places r (c ∷ cs) t h = refl

bare : (q : Request) (cs : List Candidate) → places_for (with_candidates cs (unowned q)) ≡ []
unfolding places_for
bare q cs = refl

bare_left : (now : ℕ) (q : Request) (o : Option Owner) → q.owner ≡ o → is_some o ≡ true → places_for (quit now q) ≡ []
bare_left now q none w z = never z
bare_left now q (some o) w z = ap (λ (x : Option Owner). places_for (left (owner_num x) now q)) w ∙ ap places_for (left_is now q o w) ∙ bare q _

-- the stage of a package's place
pub staged : (b : Bool) → leb 2 (2 + one b) ≡ true
staged true = refl
staged false = refl

unflagged : (b : Bool) → eqb (2 + one b) 1 ≡ false
unflagged true = refl
unflagged false = refl

package_goes : (q : Request) (i : Bool) (p : Package) → filter flagged (place_for q i (some p)) ≡ []
unfolding filter
package_goes q i p = rw (unflagged p.enqueued)

package-counts : (q : Request) (i : Bool) (p : Package) → length (filter is_package (place_for q i (some p))) ≡ 1
unfolding filter
package-counts q i p = rw (staged p.enqueued)

module _ (now : ℕ) (q : Request) (l : Lawful q) where
  place-torn : (i : Bool) (p : Option Package) → q.info ≡ i → q.«package» ≡ p → filter flagged (place_for q i p) ≡ places_for (torn_in now q)
  unfolding filter
  place-torn i (some p) e w = package_goes q i p ∙ sym (ap (λ (x : Option Package). places_for (if is_some x then quit now q else q)) w ∙ bare_left now q q.owner refl (owned q l (ap is_some w)))
  place-torn true none e w = sym (ap (λ (x : Option Package). places_for (if is_some x then quit now q else q)) w ∙ plain true none e w)
    where
      plain : (i : Bool) (p : Option Package) → q.info ≡ i → q.«package» ≡ p → places_for q ≡ place_for q i p
      plain i p e w = unfold places_for in (ap (λ (x : Bool). place_for q x q.«package») e ∙ ap (place_for q i) w)
  place-torn false none e w = sym (ap (λ (x : Option Package). places_for (if is_some x then quit now q else q)) w ∙ plain false none e w)
    where
      plain : (i : Bool) (p : Option Package) → q.info ≡ i → q.«package» ≡ p → places_for q ≡ place_for q i p
      plain i p e w = unfold places_for in (ap (λ (x : Bool). place_for q x q.«package») e ∙ ap (place_for q i) w)

  places-torn : filter flagged (places_for q) ≡ places_for (torn_in now q)
  unfolding places_for
  places-torn = place-torn q.info q.«package» refl refl

  place_none : (torn_in now q).candidates ≡ [] → places_for (torn_in now q) ≡ []
  place_none z =
      elim (test (is_some q.«package»)) [
        | inl e ↦ ap (λ (b : Bool). places_for (if b then quit now q else q)) e ∙ bare_left now q q.owner refl (owned q l e)
        | inr e ↦ ap (λ (b : Bool). places_for (if b then quit now q else q)) e ∙ places_none q l (sym (ap (λ (b : Bool). (if b then quit now q else q).candidates) e) ∙ z)
      ]

pub places_left : (now : ℕ) (t : Table) → All Lawful t → places_of (torn_all now t) ≡ filter flagged (places_of t)
unfolding torn_all
places_left now [] l = unfold each filter in refl
places_left now (q ∷ t) l =
    keep-places (torn_in now q) (torn_in now q).candidates (torn_all now t) (place_none now q l.0)
    ∙ ap (λ (x : List Place). places_for (torn_in now q) ++ x) (places_left now t l.1)
    ∙ ap (λ (x : List Place). x ++ filter flagged (places_of t)) (sym (places-torn now q l.0))
    ∙ sym (ap (filter flagged) first ∙ filter-append flagged (places_for q) (places_of t))
  where
    first : places_of (q ∷ t) ≡ places_for q ++ places_of t
    first = unfold each in refl

-- ---- how many packages there are

pub packages-are : (t : Table) → length (filter is_package (places_of t)) ≡ length (package_keys t)
unfolding package_keys each places_for
packages-are [] = unfold filter in refl
packages-are (q ∷ t) =
    let ps = place_for q q.info q.«package» in
    ap length (filter-append is_package ps (places_of t))
    ∙ length-append (filter is_package ps) (filter is_package (places_of t))
    ∙ go q.info q.«package» (packages-are t)
  where
    go : (i : Bool) (p : Option Package) → length (filter is_package (places_of t)) ≡ length (package_keys t)
        → length (filter is_package (place_for q i p)) + length (filter is_package (places_of t)) ≡ length (if is_some p then q.key ∷ package_keys t else package_keys t)
    go i (some p) e = omega (arith, e, package-counts q i p)
    go true none e = unfold filter in omega (arith, e)
    go false none e = unfold filter in omega (arith, e)
