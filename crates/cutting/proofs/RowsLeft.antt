-- The rows and the places of the table that a connection has left.
use Prim.Native.Nat.{ℕ, ◌≤◌}
use mathlib.Core.Path.{◌≡◌, refl, sym, ap, ◌∙◌}
use mathlib.Core.Logic.{inl, inr}
use mathlib.Core.Bool.{Bool, true, false, not, ◌&&◌, and-false, and_comm as and-swap}
use mathlib.Core.List.{List, [], ◌∷◌, ◌++◌, map}
use native.Mathlib.Omega.{arith}
use lib.Dec.{eqb}
use lib.ListN.{length}
use borrow.Author.Tests.{eqb-true}
use Rattle.ident.specs.Number.{Key}
use Rattle.regions.specs.declared.Row.{Row}
use Rattle.regions.specs.Regions.{each}
use Rattle.machine.specs.State.{Candidate, Request, Table, with_candidates, owner_is}
use Rattle.machine.specs.Table.{keep, has, count_in}
use Rattle.machine.specs.Announce.{without}
use Rattle.machine.specs.Sound.{Lawful, All, Filled}
use Rattle.machine.proofs.Tests.{test, or_left, or_right}
use Rattle.store.specs.Flat.{row_of, rows_for, rows_of, places_for, places_of}
use Rattle.store.proofs.Bits.{key_row, owns-row, conn-row}
use Rattle.store.proofs.Counts.{Distinct, DistinctIn, in_hasnt}
use Rattle.store.proofs.RowBack.{rows_like}
use Rattle.store.proofs.RowsAt.{places_with}
use Rattle.requests.proofs.Cutting.{place_stays}
use Rattle.package_stages.specs.Dead.{filter}
use Rattle.package_stages.proofs.Compacting.{filter-append}
use Rattle.cutting.specs.Cuts.{left_in, quit_all, remains}

-- ---- one request

module _ (n : ℕ) (p : Key → Bool) (r : Request) where
  abbrev here : Bool
  here = p r.key && not (owner_is n r.owner)

  row_stays : (c : Candidate) → remains n p (row_of r c) ≡ not (eqb c.connection n && here)
  row_stays c =
      rw (key_row r c, owns-row r c, conn-row r c) (elim (test (eqb c.connection n)) [
        | inl e ↦ rw (eqb-true c.connection n e, and-swap (not (owner_is n r.owner)) (p r.key))
        | inr e ↦ rw e
      ])

  kept_all : (cs : List Candidate) → here ≡ false → filter (remains n p) (map (row_of r) cs) ≡ map (row_of r) cs
  unfolding filter
  kept_all [] e = refl
  kept_all (c ∷ cs) e = rw (row_stays c, e, and-false (eqb c.connection n), kept_all cs e)

  kept_absent : (cs : List Candidate) → has n cs ≡ false → filter (remains n p) (map (row_of r) cs) ≡ map (row_of r) cs
  unfolding filter has
  kept_absent [] h = refl
  kept_absent (c ∷ cs) h = rw (row_stays c, or_left (eqb c.connection n) (has n cs) h, kept_absent cs (or_right (eqb c.connection n) (has n cs) h))

  kept_without : (cs : List Candidate) → here ≡ true → count_in (λ m. eqb m n) cs ≤ 1 → filter (remains n p) (map (row_of r) cs) ≡ map (row_of r) (without n cs)
  unfolding filter without count_in
  kept_without [] e d = refl
  kept_without (c ∷ cs) e d =
      elim (test (eqb c.connection n)) [
        | inl z ↦ let m : count_in (λ m. eqb m n) cs ≡ 0 = omega (arith, rw z at d) in
            rw (row_stays c, z, e) (kept_absent cs (in_hasnt n cs m))
        | inr z ↦ let m : count_in (λ m. eqb m n) cs ≤ 1 = omega (arith, rw z at d) in
            rw (row_stays c, z, kept_without cs e m)
      ]

  rows_one : Distinct r.candidates → map (row_of r) (left_in n p r) ≡ filter (remains n p) (map (row_of r) r.candidates)
  rows_one d = elim (test here) [
    | inl e ↦ rw e (sym (kept_without r.candidates e (d n)))
    | inr e ↦ rw e (sym (kept_all r.candidates e))
  ]

rows-keep : (r : Request) (cs : List Candidate) (t : Table) → rows_of (keep (with_candidates cs r) cs t) ≡ map (row_of r) cs ++ rows_of t
unfolding keep each rows_for
rows-keep r [] t = refl
rows-keep r (c ∷ cs) t = ap (λ (l : List Row). l ++ rows_of t) (rows_like (with_candidates (c ∷ cs) r) r (c ∷ cs) refl refl refl)

-- ---- the table's rows

pub rows_left_lem : (n : ℕ) (p : Key → Bool) (t : Table) → All DistinctIn t → rows_of (quit_all n p t) ≡ filter (remains n p) (rows_of t)
unfolding quit_all each rows_for
rows_left_lem n p [] d = unfold filter in refl
rows_left_lem n p (r ∷ t) d =
    rows-keep r (left_in n p r) (quit_all n p t)
    ∙ ap (λ (l : List Row). l ++ rows_of (quit_all n p t)) (rows_one n p r d.0)
    ∙ ap (λ (l : List Row). filter (remains n p) (map (row_of r) r.candidates) ++ l) (rows_left_lem n p t d.1)
    ∙ sym (filter-append (remains n p) (map (row_of r) r.candidates) (rows_of t))

-- ---- its places

places-keep : (r : Request) (cs : List Candidate) (t : Table) → (cs ≡ [] → places_for r ≡ []) → places_of (keep (with_candidates cs r) cs t) ≡ places_for r ++ places_of t
unfolding keep each
places-keep r [] t h = rw (h refl)
places-keep r (c ∷ cs) t h = rw (places_with r (c ∷ cs))

place_left : (n : ℕ) (p : Key → Bool) (r : Request) → Lawful r → Filled r → left_in n p r ≡ [] → places_for r ≡ []
place_left n p r l f e =
    elim (test (p r.key && not (owner_is n r.owner))) [
      | inl z ↦ place_stays r n l (unowned (p r.key) (owner_is n r.owner) z) (rw z at e)
      | inr z ↦ absurd (omega (arith, f, ap length (rw z at e)))
    ]
  where
    unowned : (a b : Bool) → (a && not b) ≡ true → b ≡ false
    unowned true false z = refl
    unowned true true z = sym z
    unowned false b z = cc

pub places_left : (n : ℕ) (p : Key → Bool) (t : Table) → All Lawful t → All Filled t → places_of (quit_all n p t) ≡ places_of t
unfolding quit_all each
places_left n p [] l f = refl
places_left n p (r ∷ t) l f = places-keep r (left_in n p r) (quit_all n p t) (place_left n p r l.0 f.0) ∙ rw (places_left n p t l.1 f.1)
