-- The rows of a Wtxid key by a search or by a guess that is tested, and their owner.
use Prim.Native.Nat.{ℕ, ◌+◌, ◌-◌, ◌≤◌, ◌<◌}
use mathlib.Core.Path.{◌≡◌, refl, sym, ap, ◌∙◌}
use mathlib.Core.Bool.{Bool, false}
use mathlib.Core.List.{List, [], ◌∷◌, ◌++◌}
use native.Mathlib.Omega.{arith}
use lib.ListN.{length}
use borrow.Author.Tests.{eq-eqb, ne_eqb}
use Rattle.ident.specs.Number.{top, place, wtxid}
use Rattle.words.specs.Words.{recs}
use Rattle.words.proofs.Records.{length-recs}
use Rattle.regions.specs.declared.Row.{Row}
use Rattle.regions.specs.declared.Quad.{Quad}
use Rattle.regions.specs.Order.{Bound, Sought}
use Rattle.regions.specs.Rows.{row_size, read_row, row_key, quad_number, key_number}
use Rattle.machine.specs.Typed.{Each}
use Rattle.store.specs.Gather.{key_at}
use Rattle.store.specs.FlatSound.{count_rows, hash_at, owns, owns_key}
use Rattle.store.proofs.Counts.{rows_append}
use Rattle.ident.specs.declared.Kind.TheVariants.{Wtxid}
use Rattle.regions.proofs.Hashes.{key_place}
use Rattle.sound_rows.specs.Rows.{RowsSound}
use Rattle.sound_rows.specs.Groups.{row_at, rows_in, Run}
use Rattle.sound_rows.proofs.Decide.{rest_all}
use Rattle.sound_rows.proofs.Groups.{in_split, in_each}
use Rattle.sound_rows.proofs.Halves.{kind-wtxid, keys-sorted, climb, fits_at, key-at}

-- ---- the rows of a key

count_none : (p : Row → Bool) (rs : List Row) → Each (λ r. p r ≡ false) rs → count_rows p rs ≡ 0
unfolding count_rows
count_none p [] e = refl
count_none p (r ∷ rs) e = rw e.0 (omega (arith, count_none p rs e.1))

count_same : (p q : Row → Bool) (rs : List Row) → Each (λ r. p r ≡ q r) rs → count_rows p rs ≡ count_rows q rs
unfolding count_rows
count_same p q [] e = refl
count_same p q (r ∷ rs) e = rw (e.0, count_same p q rs e.1)

-- the place of a Wtxid key
wtxid-number : (q : Quad) → key_number (record { kind = Wtxid; hash = q }) ≡ top + quad_number q
wtxid-number q = let e : key_number (record { kind = Wtxid; hash = q }) ≡ top + quad_number q = key_place (record { kind = Wtxid; hash = q }) in omega arith

module _ (n : ℕ) (w : List ℕ) (s : RowsSound (recs row_size read_row n w)) (q : Quad) (from to : ℕ)
    (b : Sought (recs row_size row_key n w) n (key_number (record { kind = Wtxid; hash = q })) from) (v : Run w from n (quad_number q) to) where
  bound : Bound (recs row_size row_key n w) (top + quad_number q) from
  bound = rw (wtxid-number q) at (b.bound (keys-sorted n w s))

  -- rows from `from` on are Wtxid rows
  from_on : (k : ℕ) → from ≤ k → k < n → (top + quad_number q ≤ place (key_at (row_at w k))) × (place (key_at (row_at w k)) ≡ top + hash_at (row_at w k))
  from_on k h l =
      let len : length (recs row_size row_key n w) ≡ n = length-recs row_size row_key n w in
      let a : top + quad_number q ≤ place (key_at (row_at w k)) = rw (key-at n w s k l) at (bound.above k h (omega arith)) in
      (a, kind-wtxid (row_at w k) (fits_at n w s k l) (omega arith))

  before : Each (λ r. owns_key (quad_number q) r ≡ false) (rows_in w 0 from)
  before = in_each w (λ r. owns_key (quad_number q) r ≡ false) from 0 from (omega arith) (λ k h l.
      let a : place (key_at (row_at w k)) < top + quad_number q = rw (key-at n w s k (omega (arith, b.most))) at (bound.below k l) in
      rw (ne_eqb (place (key_at (row_at w k))) (place (wtxid (quad_number q))) (λ e. omega arith)))

  within : Each (λ r. owns_key (quad_number q) r ≡ owns r) (rows_in w from to)
  within = in_each w (λ r. owns_key (quad_number q) r ≡ owns r) (to - from) from to (omega (arith, v.least)) (λ k h l.
      let f = from_on k h (omega (arith, v.most)) in
      let e : place (key_at (row_at w k)) ≡ place (wtxid (quad_number q)) = omega (arith, f.0, f.1, v.upto k h l) in
      rw (eq-eqb (place (key_at (row_at w k))) (place (wtxid (quad_number q))) e))

  behind : Each (λ r. owns_key (quad_number q) r ≡ false) (rows_in w to n)
  behind = in_each w (λ r. owns_key (quad_number q) r ≡ false) (n - to) to n (omega (arith, v.most)) (λ k h l.
      let f = from_on to v.least (omega arith) in
      let c : place (key_at (row_at w to)) ≤ place (key_at (row_at w k)) = climb n w s to k h l in
      let a : top + quad_number q < place (key_at (row_at w k)) = omega (arith, f.1, v.past (omega arith)) in
      rw (ne_eqb (place (key_at (row_at w k))) (place (wtxid (quad_number q))) (λ e. omega arith)))

  pub owned-count : count_rows (owns_key (quad_number q)) (recs row_size read_row n w) ≡ count_rows owns (rows_in w from to)
  owned-count =
      let p : Row → Bool = owns_key (quad_number q) in
      let m : from ≤ n = b.most in
      let e : recs row_size read_row n w ≡ rows_in w 0 from ++ (rows_in w from to ++ rows_in w to n) =
      sym (rest_all row_size read_row n w) ∙ in_split w 0 from n (omega arith) m ∙ ap (λ (l : List Row). rows_in w 0 from ++ l) (in_split w from to n v.least v.most) in
      let a = rows_append p (rows_in w 0 from) (rows_in w from to ++ rows_in w to n) in
      let c = rows_append p (rows_in w from to) (rows_in w to n) in
      ap (count_rows p) e ∙ omega (arith, a, c, count_none p (rows_in w 0 from) before, count_same p owns (rows_in w from to) within, count_none p (rows_in w to n) behind)
