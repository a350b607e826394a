-- A search of a store's rows from where `regions::start_at` says gives the place of any number for a kind.
use Prim.Native.Nat.{ℕ, min, ◌+◌, ◌-◌, ◌*◌, ◌≤◌, ◌<◌}
use mathlib.Core.Path.{◌≡◌, refl}
use mathlib.Core.List.{List}
use native.Mathlib.Omega.{arith}
use lib.ListN.{length, drop, get_or, length-drop}
use lib.Seq.{get_or-drop, get_or-take, length-take-le}
use Rattle.ident.specs.Number.{top}
use Rattle.words.specs.Words.{words, recs}
use Rattle.words.proofs.Records.{length-recs}
use Rattle.regions.specs.Rows.{row_size, row_key}
use Rattle.regions.proofs.Numbered.{bound_numbered, row-keys_below}
use Rattle.store.specs.Flat.{Flat}
use Rattle.store.specs.Image.{Shows, head_size}
use Rattle.store.specs.Parts.{RowsPart, conns_from}
use Rattle.store.specs.Shown.{limit_in, rows_in, row_numbers, Seek}
use Rattle.store.specs.PartLaws.{row_laws}
use Rattle.store.proofs.Frame.{sizes, lent, part-lent}
use Rattle.store.proofs.Searches.{numbers}

module _ (b : List ℕ) (fits : (i : ℕ) → i < length b → get_or b i 0 < 256) (few : rows_in b ≤ limit_in b) where
  module _ (f : Flat) (h : Shows b f) where
    part : RowsPart b (head_size * 8) (conns_from b * 8)
    part = let z = sizes h in record { from_is = refl; to_is = refl; within = omega arith }

    abbrev rows : List ℕ
    rows = lent b (head_size * 8) (conns_from b * 8)

    numbers_below : (i : ℕ) → i < length (row_numbers f.rows) → get_or (row_numbers f.rows) i 0 < 2 * top
    numbers_below =
        let z = sizes h in
        let n = length f.rows in
        let k = conns_from b * 8 - head_size * 8 in
        let e : length rows ≡ k = length-take-le k (drop (head_size * 8) b) (rw (length-drop (head_size * 8) b) (omega arith)) in
        let room : 8 * (row_size * n) ≤ length rows = omega (arith, e, few) in
        let small : (i : ℕ) → i < length rows → get_or rows i 0 < 256 =
        λ i l. rw (get_or-take k (drop (head_size * 8) b) i 0 (omega (arith, e, l)), get_or-drop (head_size * 8) b i 0) (fits (head_size * 8 + i) (omega (arith, e, l))) in
        let q : recs row_size row_key n (words rows) ≡ row_numbers f.rows = numbers f.head.limit f.rows (omega (arith, few)) (part-lent row_laws h part) in
        λ i l. rw q at (row-keys_below rows small n room i (rw (← q, length-recs row_size row_key n (words rows)) at l))

  pub seek_numbered : {n x r : ℕ} → Seek b (λ f. row_numbers f.rows) n (min x (2 * top)) r → Seek b (λ f. row_numbers f.rows) n x r
  seek_numbered s = record { most = s.most; bound = λ f h o. bound_numbered (numbers_below f h) (s.bound f h o) }
