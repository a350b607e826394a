-- The keys of rows: one row more, and the rows up to a key and after it.
use Prim.Native.Nat.{ℕ, suc, ◌+◌, ◌-◌, ◌≤◌, ◌<◌}
use mathlib.Core.Path.{◌≡◌, refl, sym, ap, ◌∙◌}
use mathlib.Core.Logic.{inl, inr}
use mathlib.Core.Bool.{Bool, true, false, not}
use mathlib.Core.List.{List, [], ◌∷◌, ◌++◌, map, append-nil, append_assoc}
use mathlib.Core.Option.{none, some}
use native.Mathlib.Omega.{arith}
use lib.Dec.{ltb, leb, eqb}
use lib.ListN.{length, get_or, length-append}
use lib.Seq.{take_at, drop_at, drop-cons, take_all}
use borrow.Author.Tests.{leb-true, leb-false, eqb-true, lt-ltb, le-ltb, lt-leb}
use Rattle.std.specs.Prelude.{if◌then◌else◌}
use Rattle.ident.specs.Number.{Key, place}
use Rattle.regions.specs.declared.Row.{Row}
use Rattle.machine.specs.State.{Request, Table}
use Rattle.machine.specs.Table.{at, keys}
use Rattle.machine.specs.Sound.{Lawful, Filled, Ordered, All}
use Rattle.machine.specs.Sweep.{only, round}
use Rattle.machine.proofs.Tests.{test}
use Rattle.store.specs.Flat.{rows_for, rows_of}
use Rattle.store.specs.Gather.{key_at, join, gather}
use Rattle.store.proofs.Regather.{bare, gather-table}
use Rattle.store.proofs.Split.{above, above_ordered, each_append, rows_below, rows_above, rows_at}
use Rattle.announcing.specs.Evicts.{part}
use Rattle.sweeping.specs.Batches.{keys_over, last_row}

-- ---- one row more

join-keys : (r q : Row) (t : Table) → keys (join r (join q t)) ≡ (if not (eqb (place (key_at r)) (place (key_at q))) then key_at r ∷ keys (join q t) else keys (join q t))
unfolding join keys
join-keys r q [] = elim (test (eqb (place (key_at r)) (place (key_at q)))) [ inl e ↦ rw e | inr e ↦ rw e ]
join-keys r q (h ∷ t) =
    elim (test (eqb (place (key_at q)) (place h.key))) [
      | inl d ↦ rw (d, eqb-true (place (key_at q)) (place h.key) d) (elim (test (eqb (place (key_at r)) (place h.key))) [ inl e ↦ rw e | inr e ↦ rw e ])
      | inr d ↦ rw d (elim (test (eqb (place (key_at r)) (place (key_at q)))) [ inl e ↦ rw e | inr e ↦ rw e ])
    ]

one_row : (r : Row) → keys (join r []) ≡ key_at r ∷ keys []
unfolding join keys
one_row r = refl

pub keys_step : (r : Row) (rs : List Row) → keys (gather (r ∷ rs)) ≡ (if last_row r rs then key_at r ∷ keys (gather rs) else keys (gather rs))
unfolding gather last_row
keys_step r [] = one_row r
keys_step r (q ∷ rs) = join-keys r q (gather rs)

module _ (rs : List Row) (i to : ℕ) where
  pub part_more : (d : Row) → i < to → to ≤ length rs → part i to rs ≡ get_or rs i d ∷ part (i + 1) to rs
  part_more d l h =
      let m : i < length rs = omega arith in
      let z : to - i ≡ suc (to - (i + 1)) = omega arith in
      let s : suc i ≡ i + 1 = omega arith in
      rw (drop-cons rs i d m, z, s)

  pub part_none : to ≤ i → part i to rs ≡ []
  part_none h = let z : to - i ≡ 0 = omega arith in rw z

  -- the last row of a key, and another one
  module _ (d : Row) (l : i < to) (h : to ≤ length rs) {r : Row} (e : r ≡ get_or rs i d) where
    step : keys_over i to rs ≡ (if last_row r (part (i + 1) to rs) then key_at r ∷ keys_over (i + 1) to rs else keys_over (i + 1) to rs)
    step = rw (part_more d l h, ← e) (keys_step r (part (i + 1) to rs))

    pub key-ends : {b : Bool} → b ≡ last_row r (part (i + 1) to rs) → b ≡ true → keys_over i to rs ≡ key_at r ∷ keys_over (i + 1) to rs
    key-ends q t = step ∙ rw (sym q ∙ t)

    pub key_goes_on : {b : Bool} → b ≡ last_row r (part (i + 1) to rs) → b ≡ false → keys_over i to rs ≡ keys_over (i + 1) to rs
    key_goes_on q t = step ∙ rw (sym q ∙ t)

pub over_none : (rs : List Row) (i to : ℕ) → to ≤ i → keys_over i to rs ≡ []
unfolding gather keys
over_none rs i to h = rw (part_none rs i to h)

-- ---- the requests up to a key

unfoldable pub up_to : Key → Table → Table
up_to k [] = []
up_to k (r ∷ t) = if leb (place r.key) (place k) then r ∷ up_to k t else []

pub split : (k : Key) (t : Table) → t ≡ up_to k t ++ above k t
unfolding up_to above
split k [] = refl
split k (r ∷ t) = elim (test (leb (place r.key) (place k))) [ inl e ↦ rw e (ap (λ (l : Table). r ∷ l) (split k t)) | inr e ↦ rw e ]

pub ordered_up : (k : Key) (lo : ℕ) (t : Table) → Ordered lo t → Ordered lo (up_to k t)
unfolding up_to
ordered_up k lo [] o = tt
ordered_up k lo (r ∷ t) o = elim (test (leb (place r.key) (place k))) [ inl e ↦ rw e (o.0, o.1, ordered_up k (suc (place r.key)) t o.2) | inr e ↦ rw e tt ]

module _ (P : Request → Type 0) (k : Key) where
  pub all_up : (t : Table) → All P t → All P (up_to k t)
  unfolding up_to
  all_up [] a = tt
  all_up (r ∷ t) a = elim (test (leb (place r.key) (place k))) [ inl e ↦ rw e (a.0, all_up t a.1) | inr e ↦ rw e tt ]

  pub all_above : (t : Table) → All P t → All P (above k t)
  unfolding above
  all_above [] a = tt
  all_above (r ∷ t) a = elim (test (leb (place r.key) (place k))) [ inl e ↦ rw e (all_above t a.1) | inr e ↦ rw e a ]

module _ (k : Key) where
  none_up : (lo : ℕ) (t : Table) → place k < lo → Ordered lo t → only (λ n. leb n (place k)) (keys t) ≡ []
  unfolding only keys
  none_up lo [] h o = refl
  none_up lo (r ∷ t) h o = rw (lt-leb (place r.key) (place k) (omega (arith, o.0))) (none_up (suc (place r.key)) t (omega (arith, o.0)) o.2)

  all_after : (lo : ℕ) (t : Table) → place k < lo → Ordered lo t → only (λ n. ltb (place k) n) (keys t) ≡ keys t
  unfolding only keys
  all_after lo [] h o = refl
  all_after lo (r ∷ t) h o = rw (lt-ltb (place k) (place r.key) (omega (arith, o.0))) (ap (λ (l : List Key). r.key ∷ l) (all_after (suc (place r.key)) t (omega (arith, o.0)) o.2))

  keys-up : (lo : ℕ) (t : Table) → Ordered lo t → keys (up_to k t) ≡ only (λ n. leb n (place k)) (keys t)
  unfolding only keys up_to
  keys-up lo [] o = refl
  keys-up lo (r ∷ t) o = elim (test (leb (place r.key) (place k))) [
    | inl e ↦ rw e (ap (λ (l : List Key). r.key ∷ l) (keys-up (suc (place r.key)) t o.2))
    | inr e ↦ rw e (sym (none_up _ t (omega (arith, leb-false (place r.key) (place k) e)) o.2))
  ]

  keys_above : (lo : ℕ) (t : Table) → Ordered lo t → keys (above k t) ≡ only (λ n. ltb (place k) n) (keys t)
  unfolding only keys above
  keys_above lo [] o = refl
  keys_above lo (r ∷ t) o = elim (test (leb (place r.key) (place k))) [
    | inl e ↦ rw (e, le-ltb (place k) (place r.key) (leb-true (place r.key) (place k) e)) (keys_above (suc (place r.key)) t o.2)
    | inr e ↦ let l = leb-false (place r.key) (place k) e in rw (e, lt-ltb (place k) (place r.key) l) (ap (λ (x : List Key). r.key ∷ x) (sym (all_after _ t (omega (arith, l)) o.2)))
  ]

-- ---- the keys of a table's rows

keys-bare : (t : Table) → keys (map bare t) ≡ keys t
unfolding keys
keys-bare [] = refl
keys-bare (r ∷ t) = ap (λ (l : List Key). r.key ∷ l) (keys-bare t)

pub keys-rows : (lo : ℕ) (t : Table) → Ordered lo t → All Lawful t → All Filled t → keys (gather (rows_of t)) ≡ keys t
keys-rows lo t o l f = ap keys (gather-table lo t o l f) ∙ keys-bare t

module _ (t : Table) (o : Ordered 0 t) (l : All Lawful t) (f : All Filled t) {n : ℕ} (long : n ≡ length (rows_of t)) where
  whole : part 0 n (rows_of t) ≡ rows_of t
  whole = let z : n - 0 ≡ length (rows_of t) = omega (arith, long) in rw z (take_all (length (rows_of t)) (rows_of t) (omega arith))

  -- no cursor
  pub rounds_none : keys_over 0 n (rows_of t) ++ keys_over 0 0 (rows_of t) ≡ round none (keys t)
  unfolding round
  rounds_none = rw (over_none (rows_of t) 0 0 (omega arith), append-nil) (ap (λ (x : List Row). keys (gather x)) whole ∙ keys-rows 0 t o l f)

  -- a cursor, and the first row after it
  module _ (k : Key) {i : ℕ} (at_is : i ≡ length (rows_below k t ++ rows_for (at k t))) where
    halves : rows_of t ≡ rows_of (up_to k t) ++ rows_of (above k t)
    halves = ap rows_of (split k t) ∙ each_append rows_for (up_to k t) (above k t)

    seam : length (rows_of (up_to k t)) ≡ i
    seam =
        let a = ap length halves ∙ length-append (rows_of (up_to k t)) (rows_of (above k t)) in
        let b = ap length (rows_at k 0 t o ∙ sym (append_assoc (rows_below k t) (rows_for (at k t)) (rows_above k t))) ∙ length-append (rows_below k t ++ rows_for (at k t)) (rows_above k t) in
        omega (arith, a, b, at_is)

    pub lower : part 0 i (rows_of t) ≡ rows_of (up_to k t)
    lower = let z : i - 0 ≡ i = omega arith in rw (z, halves) (take_at (rows_of (up_to k t)) (rows_of (above k t)) i seam)

    pub upper : part i n (rows_of t) ≡ rows_of (above k t)
    upper =
        let a = ap length halves ∙ length-append (rows_of (up_to k t)) (rows_of (above k t)) in
        let z : n - i ≡ length (rows_of (above k t)) = omega (arith, a, seam, long) in
        rw (z, halves, drop_at (rows_of (up_to k t)) (rows_of (above k t)) i seam) (take_all (length (rows_of (above k t))) (rows_of (above k t)) (omega arith))

    pub rounds_some : keys_over i n (rows_of t) ++ keys_over 0 i (rows_of t) ≡ round (some k) (keys t)
    unfolding round
    rounds_some =
        let a = ap (λ (x : List Row). keys (gather x)) upper ∙ keys-rows _ (above k t) (above_ordered k 0 t o) (all_above Lawful k t l) (all_above Filled k t f) ∙ keys_above k 0 t o in
        let b = ap (λ (x : List Row). keys (gather x)) lower ∙ keys-rows 0 (up_to k t) (ordered_up k 0 t o) (all_up Lawful k t l) (all_up Filled k t f) ∙ keys-up k 0 t o in
        (λ j. a j ++ b j)
