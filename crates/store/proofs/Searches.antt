-- A search in a part that is lent is one of the records that it holds.
use Prim.Native.Nat.{ℕ, ◌≤◌, ◌<◌}
use mathlib.Core.Path.{◌≡◌, refl, sym, ap, ◌∙◌}
use mathlib.Core.List.{List, map}
use native.Mathlib.Omega.{arith}
use lib.ListN.{length, take, get_or}
use lib.Seq.{get_or-take}
use Rattle.std.specs.Prelude.{Option, Some, None}
use Rattle.words.specs.Words.{recs}
use Rattle.words.proofs.Records.{take-recs}
use Rattle.regions.specs.declared.Row.{Row}
use Rattle.regions.specs.declared.Conn.{Conn}
use Rattle.regions.specs.Order.{Sorted, Bound, Sought, First, FoundFirst}
use Rattle.regions.specs.Regions.{Holds}
use Rattle.regions.specs.Rows.{quad_number, quad_of, row_size, row_words, read_row, row_key, row_conn, conn_size, conn_words, conn_key}
use Rattle.regions.proofs.Order.{number_quad}
use Rattle.regions.proofs.Regions.{column}
use Rattle.places.specs.Places.{Place, place_size, place_words, place_key}
use Rattle.places.proofs.Columns.{place-keys}
use Rattle.store.specs.Shown.{row_numbers, row_conns, conn_names, place_hashes, Met, FoundMet}

module _ (L : ℕ) {w : List ℕ} where
  module _ (rs : List Row) (l : length rs ≤ L) (h : Holds row_size row_words L rs w) where
    pub numbers : recs row_size row_key (length rs) w ≡ row_numbers rs
    unfolding row_words read_row
    numbers = column row_size row_words (λ r. refl) row_key _ (λ r. refl) L rs l h

    names : recs row_size row_conn (length rs) w ≡ row_conns rs
    unfolding row_words
    names = column row_size row_words (λ r. refl) row_conn _ (λ r. refl) L rs l h

    pub row_sought : {n x r : ℕ} → n ≡ length rs → Sought (recs row_size row_key n w) n x r → Sorted (row_numbers rs) → Bound (row_numbers rs) x r
    row_sought e s o = let q = ap (λ j. recs row_size row_key j w) e ∙ numbers in rw q at (s.bound (rw q o))

    pub row-met : {from to x r : ℕ} → to ≤ length rs → First (recs row_size row_conn to w) from to x r → First (row_conns rs) from to x r
    row-met {from} {to} {x} {r} e m = record { least = m.least; most = m.most; none = λ j a b z. m.none j a b (there j (omega (arith, m.most)) ∙ z); found = λ a. sym (there r a) ∙ m.found a }
      where
        there : (j : ℕ) → j < to → get_or (recs row_size row_conn to w) j 0 ≡ get_or (row_conns rs) j 0
        there j a = ap (λ k. get_or k j 0) (sym (take-recs row_size row_conn to (length rs) w e) ∙ ap (take to) names) ∙ get_or-take to (row_conns rs) j 0 a

  module _ (cs : List Conn) (l : length cs ≤ L) (h : Holds conn_size conn_words L cs w) where
    conn-names : recs conn_size conn_key (length cs) w ≡ conn_names cs
    unfolding conn_words
    conn-names = column conn_size conn_words (λ r. refl) conn_key _ (λ r. refl) L cs l h

    pub conn_sought : {n x r : ℕ} → n ≡ length cs → Sought (recs conn_size conn_key n w) n x r → Sorted (conn_names cs) → Bound (conn_names cs) x r
    conn_sought e s o = let q = ap (λ j. recs conn_size conn_key j w) e ∙ conn-names in rw q at (s.bound (rw q o))

  module _ (ps : List Place) (l : length ps ≤ L) (h : Holds place_size place_words L ps w) where
    hashes : map (λ p. quad_number (quad_of p.hash)) ps ≡ place_hashes ps
    hashes = simp number_quad

    pub place_sought : {n x r : ℕ} → n ≡ length ps → Sought (recs place_size place_key n w) n x r → Sorted (place_hashes ps) → Bound (place_hashes ps) x r
    place_sought e s o = let q = ap (λ j. recs place_size place_key j w) e ∙ place-keys L ps l h ∙ hashes in rw q at (s.bound (rw q o))

-- found or not, if each that is the first among the records is met
pub found-met : {ks b : List ℕ} {from to x : ℕ} → ((r : ℕ) → First ks from to x r → Met b from to x r) → (o : Option ℕ) → FoundFirst ks from to x o → FoundMet b from to x o
found-met {to = to} f None p = f to p
found-met f (Some i) p = (f i p.0, p.1)
