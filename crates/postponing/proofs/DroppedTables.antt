-- The rows of a table without the owners whose time is over.
use Prim.Native.Nat.{ℕ, ◌≤◌}
use mathlib.Core.Path.{◌≡◌, refl, sym, ap, ◌∙◌}
use mathlib.Core.Logic.{inl, inr}
use mathlib.Core.Bool.{Bool, true, false, ◌&&◌}
use mathlib.Core.List.{List, [], ◌∷◌, ◌++◌, map}
use mathlib.Core.Option.{Option, none, some}
use native.Mathlib.Omega.{arith}
use lib.Dec.{leb, eqb}
use lib.ListN.{length}
use borrow.Author.Tests.{eqb-true, eqb-false, eq-eqb, ne_eqb}
use Rattle.std.specs.Prelude.{if◌then◌else◌}
use Rattle.regions.specs.declared.Row.{Row}
use Rattle.regions.specs.Regions.{each}
use Rattle.regions.specs.Rows.{quad_of}
use Rattle.places.specs.Places.{Place}
use Rattle.regions.proofs.Regions.{each_append}
use Rattle.machine.specs.State.{Candidate, Owner, Package, Request, Table, State, on_table, with_candidates, unowned, owner_is}
use Rattle.machine.specs.Table.{keep, has, count_in}
use Rattle.machine.specs.Announce.{without}
use Rattle.machine.specs.Sound.{All, Filled, Sound}
use Rattle.machine.proofs.Tests.{test, never, and_left}
use Rattle.store.specs.Flat.{own_bit, bits_of, witness_bit, deadline_for, row_of, rows_for, rows_of, place_for, places_for, places_of, tally}
use Rattle.store.specs.FlatSound.{owns}
use Rattle.store.specs.Image.{Writes}
use Rattle.store.proofs.Bits.{owns-row}
use Rattle.store.proofs.Counts.{Distinct, DistinctIn, in_hasnt, distinct_in}
use Rattle.requests.specs.Changes.{Shorn}
use Rattle.requests.proofs.Keeping.{writes_by}
use Rattle.announcing.specs.Drops.{kept_row}
use Rattle.failing.specs.Changes.{readied}
use Rattle.announcing.proofs.DroppingRows.{row_goes, row_stays}
use Rattle.package_stages.specs.Changes.{owner_num}
use Rattle.postponing.specs.Silent.{late, gone, dropped_in, dropped_all, Unburdened, is_due}

-- ---- candidates made ready keep the place

ready-place : (now : ℕ) (r : Request) (i : Bool) (p : Option Package) → place_for (readied now r) i p ≡ place_for r i p
ready-place now r i (some p) = refl
ready-place now r true none = refl
ready-place now r false none = refl

pub ready_none : (now : ℕ) (r : Request) → places_for r ≡ [] → places_for (readied now r) ≡ []
unfolding places_for
ready_none now r e = ready-place now r r.info r.«package» ∙ e

-- a row that goes owns its request
pub due-owns : (now : ℕ) (r : Row) {y : Bool} → y ≡ is_due now r → y ≡ true → 1 ≡ own_bit r
due-owns now r q e = sym (eqb-true (own_bit r) 1 (and_left (owns r) (leb r.deadline now) (sym q ∙ e)))

module _ (now : ℕ) where
  -- ---- one request

  is-due : (q : Request) (c : Candidate) (w : Option Owner) → q.owner ≡ w → is_due now (row_of q c) ≡ (owner_is c.connection w && leb (deadline_for c.connection w) now)
  unfolding row_of
  is-due q c w e = ap (λ (b : Bool). b && leb (deadline_for c.connection q.owner) now) (owns-row q c) ∙
      ap (λ (x : Option Owner). owner_is c.connection x && leb (deadline_for c.connection x) now) e

  stays : (q : Request) (c : Candidate) (w : Option Owner) → q.owner ≡ w → late now w ≡ false → kept_row (is_due now) (row_of q c) ≡ row_of q c ∷ []
  stays q c none e l = row_stays (is_due now) (row_of q c) (is-due q c none e)
  stays q c (some o) e l =
      row_stays (is_due now) (row_of q c) (is-due q c (some o) e ∙ elim (test (eqb o.connection c.connection)) [ inl z ↦ rw z l | inr z ↦ rw z refl ])

  all_stay : (q : Request) → late now q.owner ≡ false → (cs : List Candidate) → each (kept_row (is_due now)) (map (row_of q) cs) ≡ map (row_of q) cs
  unfolding each
  all_stay q l [] = refl
  all_stay q l (c ∷ cs) = rw (stays q c q.owner refl l, all_stay q l cs)

  module _ (q : Request) (o : Owner) (own : q.owner ≡ some o) (l : leb o.deadline now ≡ true) where
    owner-row : (c : Candidate) → eqb o.connection c.connection ≡ true → kept_row (is_due now) (row_of q c) ≡ []
    owner-row c z = row_goes (is_due now) (row_of q c) (is-due q c (some o) own ∙ rw z l)

    -- a row, by what it says of the owner
    mk : Candidate → ℕ → Bool → Row
    mk c d w =
        let bits = bits_of q.key.kind (witness_bit c.item.kind) c.preferred w q.fallback in
        record { hash = quad_of q.key.hash; conn = c.connection; ready = c.ready; prio = c.priority; deadline = d; bits = bits }

    same_row : (c : Candidate) → eqb o.connection c.connection ≡ false → row_of q c ≡ row_of (unowned q) c
    unfolding row_of mk
    same_row c z =
        ap (λ (x : Option Owner). mk c (deadline_for c.connection x) (owner_is c.connection x)) own
        ∙ ap (λ (b : Bool). mk c (if b then o.deadline else 0) b) z

    other_row : (c : Candidate) → eqb o.connection c.connection ≡ false → kept_row (is_due now) (row_of q c) ≡ row_of (unowned q) c ∷ []
    other_row c z = row_stays (is_due now) (row_of q c) (is-due q c (some o) own ∙ rw z refl) ∙ ap (λ (r : Row). r ∷ []) (same_row c z)

    turned : (m n : ℕ) (b : Bool) → eqb m n ≡ b → eqb n m ≡ b
    turned m n true z = eq-eqb n m (sym (eqb-true m n z))
    turned m n false z = ne_eqb n m (λ y. eqb-false m n z (sym y))

    others : (cs : List Candidate) → has o.connection cs ≡ false → each (kept_row (is_due now)) (map (row_of q) cs) ≡ map (row_of (unowned q)) cs
    unfolding each has
    others [] h = refl
    others (c ∷ cs) h =
        elim (test (eqb c.connection o.connection)) [
          | inl z ↦ never (sym (rw z at h))
          | inr z ↦ rw (other_row c (turned c.connection o.connection false z), others cs (rw z at h))
        ]

    dropped_cands : (cs : List Candidate) → Distinct cs → each (kept_row (is_due now)) (map (row_of q) cs) ≡ map (row_of (unowned q)) (without o.connection cs)
    unfolding each without
    dropped_cands [] d = refl
    dropped_cands (c ∷ cs) d =
        elim (test (eqb c.connection o.connection)) [
          | inl z ↦ rw (z, owner-row c (turned c.connection o.connection true z)) (others cs (in_hasnt o.connection cs (alone z)))
          | inr z ↦ rw (z, other_row c (turned c.connection o.connection false z), dropped_cands cs (λ n. fewer n))
        ]
      where
        fewer : (n : ℕ) → count_in (λ m. eqb m n) cs ≤ 1
        fewer n = let l = d n in unfold count_in in omega (arith, l)

        alone : eqb c.connection o.connection ≡ true → count_in (λ m. eqb m o.connection) cs ≡ 0
        alone z = let l = d o.connection in unfold count_in in omega (arith, rw z at l)

    owner_goes : Distinct q.candidates → each (kept_row (is_due now)) (rows_for q) ≡ rows_for (gone o.connection q)
    unfolding rows_for row_of
    owner_goes d = dropped_cands q.candidates d

  rows_dropped : (q : Request) → DistinctIn q → each (kept_row (is_due now)) (rows_for q) ≡ rows_for (dropped_in now q)
  rows_dropped q d = by_owner q.owner refl
    where
      by_owner : (w : Option Owner) → q.owner ≡ w → each (kept_row (is_due now)) (rows_for q) ≡ rows_for (dropped_in now q)
      by_owner none e = unfold rows_for in (all_stay q (ap (late now) e) q.candidates ∙
          sym (ap (λ (b : Bool). map (row_of (if b then gone (owner_num q.owner) q else q)) (if b then gone (owner_num q.owner) q else q).candidates) (ap (late now) e)))
      by_owner (some o) e =
          elim (test (leb o.deadline now)) [
            | inl l ↦ owner_goes q o e l d ∙ sym (ap (λ (w : Option Owner). rows_for (if late now w then gone (owner_num w) q else q)) e ∙
                ap (λ (b : Bool). rows_for (if b then gone o.connection q else q)) l)
            | inr l ↦ unfold rows_for in (all_stay q (ap (late now) e ∙ l) q.candidates ∙
                sym (ap (λ (b : Bool). map (row_of (if b then gone (owner_num q.owner) q else q)) (if b then gone (owner_num q.owner) q else q).candidates) (ap (late now) e ∙ l)))
          ]

  -- ---- all rows

  keep-rows : (r : Request) (cs : List Candidate) (t : Table) → r.candidates ≡ cs → rows_of (keep r cs t) ≡ rows_for r ++ rows_of t
  unfolding keep each rows_for
  keep-rows r [] t e = rw e
  keep-rows r (c ∷ cs) t e = refl

  rows_left_lem : (t : Table) → All DistinctIn t → rows_of (dropped_all now t) ≡ each (kept_row (is_due now)) (rows_of t)
  unfolding dropped_all
  rows_left_lem [] d = unfold each in refl
  rows_left_lem (q ∷ t) d =
      keep-rows (dropped_in now q) (dropped_in now q).candidates (dropped_all now t) refl
      ∙ ap (λ (x : List Row). rows_for (dropped_in now q) ++ x) (rows_left_lem t d.1)
      ∙ ap (λ (x : List Row). x ++ each (kept_row (is_due now)) (rows_of t)) (sym (rows_dropped q d.0))
      ∙ sym (first ∙ each_append (kept_row (is_due now)) (rows_for q) (rows_of t))
    where
      first : each (kept_row (is_due now)) (rows_of (q ∷ t)) ≡ each (kept_row (is_due now)) (rows_for q ++ rows_of t)
      first = ap (each (kept_row (is_due now))) (unfold each in refl)

  -- ---- places stay

  bare : (r : Request) (cs : List Candidate) → places_for (with_candidates cs (unowned r)) ≡ []
  unfolding places_for
  bare r cs = refl

  keep_places : (r : Request) (cs : List Candidate) (t : Table) → (cs ≡ [] → places_for r ≡ []) → places_of (keep r cs t) ≡ places_for r ++ places_of t
  unfolding keep each
  keep_places r [] t h = ap (λ (x : List Place). x ++ places_of t) (sym (h refl))
  keep_places r (c ∷ cs) t h = refl

  some_candidate : (cs : List Candidate) → 1 ≤ length cs → cs ≡ [] → ⊥
  some_candidate cs h e = omega (arith, ap length e)

  places_stay : (t : Table) → All Filled t → Unburdened now t → places_of (dropped_all now t) ≡ places_of t
  unfolding dropped_all each
  places_stay [] f a = refl
  places_stay (r ∷ t) f a =
      elim (test (late now r.owner)) [
        | inl e ↦ rw e (keep_places _ _ (dropped_all now t) (λ z. bare r _) ∙ ap (λ (x : List Place). x ++ places_of (dropped_all now t)) (bare r _ ∙ sym (a.0 e))
            ∙ ap (λ (x : List Place). places_for r ++ x) (places_stay t f.1 a.1))
        | inr e ↦ rw e (keep_places r r.candidates (dropped_all now t) (λ z. absurd (some_candidate r.candidates f.0 z)) ∙ ap (λ (x : List Place). places_for r ++ x) (places_stay t f.1 a.1))
      ]

  pub dropped-writes : {b : List ℕ} (st : State) → Sound st → Unburdened now st.table → Shorn b st (each (kept_row (is_due now)) (rows_of st.table)) (each (kept_row (is_due now)) (rows_of st.table))
      → Writes b (on_table (dropped_all now st.table) st)
  dropped-writes st s p h =
      let e = rows_left_lem st.table (distinct_in st.table s.bounded.once) in
      writes_by st (dropped_all now st.table) e (ap tally e) (places_stay st.table s.bounded.filled p) h
