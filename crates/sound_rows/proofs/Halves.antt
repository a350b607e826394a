-- Rows whose keys do not fall: a half of Txid rows, then a half of Wtxid rows, and in each the hashes do not fall.
use Prim.Native.Nat.{ℕ, zero, suc, ◌+◌, ◌-◌, ◌%◌, ◌≤◌, ◌<◌}
use mathlib.Core.Path.{◌≡◌, refl, sym, ◌∙◌}
use mathlib.Core.List.{List, [], ◌∷◌}
use native.Mathlib.Nat.{le_refl, le_trans}
use native.Mathlib.Omega.{arith}
use lib.ListN.{length, get_or}
use Rattle.ident.specs.declared.Kind.{Kind}
use Rattle.ident.specs.declared.Kind.TheVariants.{Txid, Wtxid}
use Rattle.ident.specs.Number.{top, base, place, kind_is}
use Rattle.words.specs.Words.{number, recs}
use Rattle.words.proofs.Records.{length-recs, recs_at}
use Rattle.regions.specs.declared.Row.{Row}
use Rattle.regions.specs.declared.Key.{Key}
use Rattle.regions.specs.Order.{Sorted, Bound, Sought}
use Rattle.regions.specs.Rows.{row_size, read_row, row_key, key_number}
use Rattle.machine.specs.Typed.{Each}
use Rattle.store.specs.Gather.{key_at}
use Rattle.store.specs.FlatSound.{hash_at, mark_bit, RowFits, Ascending, MarkedAs, SameMarks}
use Rattle.store.proofs.Keys.{row_number}
use Rattle.store.proofs.Quads.{number-top}
use Rattle.sound_rows.specs.Rows.{RowsSound, mark_for}
use Rattle.sound_rows.specs.Groups.{row_at, Run, Fitting}
use Rattle.sound_rows.proofs.Fitting.{place-kind, kind-bit}
use Rattle.sound_rows.proofs.Groups.{Level}

-- ---- keys by index

module _ (d : Row) where
  from_first : (lo : ℕ) (rs : List Row) → Ascending lo rs → (q : ℕ) → q < length rs → lo ≤ place (key_at (get_or rs q d))
  from_first lo [] a q h = absurd (omega arith)
  from_first lo (r ∷ rs) a zero h = a.0
  from_first lo (r ∷ rs) a (suc q) h = le_trans a.0 (from_first (place (key_at r)) rs a.1 q (omega arith))

  keys_climb : (lo : ℕ) (rs : List Row) → Ascending lo rs → (p q : ℕ) → p ≤ q → q < length rs → place (key_at (get_or rs p d)) ≤ place (key_at (get_or rs q d))
  keys_climb lo [] a p q h l = absurd (omega arith)
  keys_climb lo (r ∷ rs) a zero zero h l = le_refl _
  keys_climb lo (r ∷ rs) a zero (suc q) h l = from_first (place (key_at r)) rs a.1 q (omega arith)
  keys_climb lo (r ∷ rs) a (suc p) zero h l = absurd (omega arith)
  keys_climb lo (r ∷ rs) a (suc p) (suc q) h l = keys_climb (place (key_at r)) rs a.1 p q (omega arith) (omega arith)

  each_at : (rs : List Row) → Each RowFits rs → (q : ℕ) → q < length rs → RowFits (get_or rs q d)
  each_at [] e q h = absurd (omega arith)
  each_at (r ∷ rs) e zero h = e.0
  each_at (r ∷ rs) e (suc q) h = each_at rs e.1 q (omega arith)

-- ---- a key below top is a Txid key, and any other a Wtxid key

kind-txid : (r : Row) → place (key_at r) < top → place (key_at r) ≡ hash_at r
unfolding key_at
kind-txid r h = go (kind_is (r.bits % 2)) h
  where
    go : (k : Kind) → base k + hash_at r < top → base k + hash_at r ≡ hash_at r
    go Txid h = omega arith
    go Wtxid h = absurd (omega arith)

pub kind-wtxid : (r : Row) → RowFits r → top ≤ place (key_at r) → place (key_at r) ≡ top + hash_at r
unfolding key_at
kind-wtxid r f h = go (kind_is (r.bits % 2)) h
  where
    go : (k : Kind) → top ≤ base k + hash_at r → base k + hash_at r ≡ top + hash_at r
    go Txid h = absurd (omega (arith, number-top r.hash f.hash))
    go Wtxid h = refl

kind_below : (r : Row) → place (key_at r) < top → kind_is (r.bits % 2) ≡ Txid
unfolding key_at
kind_below r h = go (kind_is (r.bits % 2)) h
  where
    go : (k : Kind) → base k + hash_at r < top → k ≡ Txid
    go Txid h = refl
    go Wtxid h = absurd (omega arith)

kind_above : (r : Row) → RowFits r → top ≤ place (key_at r) → kind_is (r.bits % 2) ≡ Wtxid
unfolding key_at
kind_above r f h = go (kind_is (r.bits % 2)) h
  where
    go : (k : Kind) → top ≤ base k + hash_at r → k ≡ Wtxid
    go Txid h = absurd (omega (arith, number-top r.hash f.hash))
    go Wtxid h = refl

-- ---- marks by index

module _ (d : Row) where
  marked_at : (r : Row) (rs : List Row) → MarkedAs r rs → (q : ℕ) → q < length rs → place (key_at (get_or (r ∷ rs) q d)) ≡ place (key_at (get_or rs q d))
      → mark_bit (get_or (r ∷ rs) q d) ≡ mark_bit (get_or rs q d)
  marked_at r [] m q h e = absurd (omega arith)
  marked_at r (s ∷ rs) m zero h e = m.0 e
  marked_at r (s ∷ rs) m (suc q) h e = marked_at s rs m.1 q (omega arith) e

  marks_at : (rs : List Row) → SameMarks rs → (q : ℕ) → suc q < length rs → place (key_at (get_or rs q d)) ≡ place (key_at (get_or rs (suc q) d))
      → mark_bit (get_or rs q d) ≡ mark_bit (get_or rs (suc q) d)
  marks_at [] m q h e = absurd (omega arith)
  marks_at (r ∷ rs) m q h e = marked_at r rs m q (omega arith) e

-- the least Wtxid key
abbrev pub first_wtxid : Key
first_wtxid = record { kind = Wtxid; hash = record { w0 = 0; w1 = 0; w2 = 0; w3 = 0 } }

pub first_top : key_number first_wtxid ≡ top
unfolding key_number number top
first_top = refl

module _ (n : ℕ) (w : List ℕ) (s : RowsSound (recs row_size read_row n w)) where
  pub climb : (p q : ℕ) → p ≤ q → q < n → place (key_at (row_at w p)) ≤ place (key_at (row_at w q))
  climb p q h l =
      rw (← (recs_at row_size read_row n w p (row_at w 0) (omega arith)), ← (recs_at row_size read_row n w q (row_at w 0) l))
      (keys_climb (row_at w 0) 0 (recs row_size read_row n w) s.ascending p q h (rw (length-recs row_size read_row n w) l))

  pub fits_at : (q : ℕ) → q < n → RowFits (row_at w q)
  fits_at q l = rw (← (recs_at row_size read_row n w q (row_at w 0) l)) (each_at (row_at w 0) (recs row_size read_row n w) s.fit q (rw (length-recs row_size read_row n w) l))

  pub key-at : (k : ℕ) → k < n → get_or (recs row_size row_key n w) k 0 ≡ place (key_at (row_at w k))
  key-at k h = recs_at row_size row_key n w k 0 h ∙ row_number (row_at w k)

  pub keys-sorted : Sorted (recs row_size row_key n w)
  unfolding Sorted
  keys-sorted p q h l =
      let l' : q < n = rw (length-recs row_size row_key n w) at l in
      rw (key-at p (omega arith), key-at q l') (climb p q h l')

  module _ (m : ℕ) (b : Sought (recs row_size row_key n w) n (key_number first_wtxid) m) where
    bound : Bound (recs row_size row_key n w) top m
    bound = rw first_top at (b.bound keys-sorted)

    pub txid_level : Level w 0 m
    txid_level p q z h l =
        let l' : q < n = omega (arith, b.most) in
        let kp : place (key_at (row_at w p)) < top = rw (key-at p (omega arith)) at (bound.below p (omega arith)) in
        let kq : place (key_at (row_at w q)) < top = rw (key-at q l') at (bound.below q l) in
        rw (← (kind-txid (row_at w p) kp), ← (kind-txid (row_at w q) kq)) (climb p q h l')

    pub wtxid_level : Level w m n
    wtxid_level p q z h l =
        let len : length (recs row_size row_key n w) ≡ n = length-recs row_size row_key n w in
        let kp : top ≤ place (key_at (row_at w p)) = rw (key-at p (omega arith)) at (bound.above p z (omega arith)) in
        let kq : top ≤ place (key_at (row_at w q)) = rw (key-at q l) at (bound.above q (omega arith) (omega arith)) in
        omega (arith, climb p q h l, kind-wtxid (row_at w p) (fits_at p (omega arith)) kp, kind-wtxid (row_at w q) (fits_at q l) kq)

    pub txid_kind : (k : ℕ) → k < m → kind_is ((row_at w k).bits % 2) ≡ Txid
    txid_kind k h = kind_below (row_at w k) (rw (key-at k (omega (arith, b.most))) at (bound.below k h))

    pub wtxid_kind : (k : ℕ) → m ≤ k → k < n → kind_is ((row_at w k).bits % 2) ≡ Wtxid
    wtxid_kind k h l =
        let len : length (recs row_size row_key n w) ≡ n = length-recs row_size row_key n w in
        kind_above (row_at w k) (fits_at k l) (rw (key-at k l) at (bound.above k h (omega arith)))

  -- ---- rows of one hash

  next_mark : (k : ℕ) → k + 1 < n → place (key_at (row_at w k)) ≡ place (key_at (row_at w (k + 1))) → mark_bit (row_at w k) ≡ mark_bit (row_at w (k + 1))
  next_mark k l e =
      let g : suc k ≡ k + 1 = omega arith in
      let p = recs_at row_size read_row n w k (row_at w 0) (omega arith) in
      let q : get_or (recs row_size read_row n w) (suc k) (row_at w 0) ≡ row_at w (k + 1) = rw g (recs_at row_size read_row n w (k + 1) (row_at w 0) l) in
      let r = marks_at (row_at w 0) (recs row_size read_row n w) s.marks k (rw (length-recs row_size read_row n w) (omega arith)) (rw (p, q) e) in
      rw (p, q) at r

  one_mark : (kind : Kind) (i h d k : ℕ) → i + d ≡ k → k < n → ((q : ℕ) → i ≤ q → q ≤ k → kind_is ((row_at w q).bits % 2) ≡ kind) → ((q : ℕ) → i ≤ q → q ≤ k → hash_at (row_at w q) ≡ h)
      → mark_bit (row_at w k) ≡ mark_bit (row_at w i)
  one_mark kind i h zero k e l f g = let z : k ≡ i = omega arith in rw z refl
  one_mark kind i h (suc d) k e l f g =
      let z : k - 1 + 1 ≡ k = omega arith in
      let x = place-kind (row_at w (k - 1)) (f (k - 1) (omega arith) (omega arith)) in
      let y = place-kind (row_at w k) (f k (omega arith) (omega arith)) in
      let q : place (key_at (row_at w (k - 1))) ≡ place (key_at (row_at w k)) = omega (arith, x, y, g (k - 1) (omega arith) (omega arith), g k (omega arith) (omega arith)) in
      sym (rw z at (next_mark (k - 1) (omega arith) (rw z q)))
      ∙ one_mark kind i h d (k - 1) (omega arith) (omega arith) (λ a b c. f a b (omega arith)) (λ a b c. g a b (omega arith))

  mark_of_kind : (kind : Kind) (r f : Row) → RowFits r → kind_is (r.bits % 2) ≡ kind → mark_bit r ≡ mark_bit f → mark_bit r ≡ mark_for kind f
  mark_of_kind Txid r f g e m = m
  mark_of_kind Wtxid r f g e m = (g.plain (kind-bit r.bits e)).1

  -- rows of one hash in sound rows are fit
  pub run_fits : {kind : Kind} {i to h e : ℕ} → to ≤ n → ((k : ℕ) → i ≤ k → k < to → kind_is ((row_at w k).bits % 2) ≡ kind) → Run w i to h e → ((k : ℕ) → i ≤ k → k < e → hash_at (row_at w k) ≡ h)
      → Fitting kind w i to h e
  run_fits {kind} {i} {to} {h} {e} l f v g = record {
    rows = λ k a b.
        record {
          fit = fits_at k (omega (arith, v.most));
          kind = f k a (omega (arith, v.most));
          mark = mark_of_kind kind (row_at w k) (row_at w i) (fits_at k (omega (arith, v.most))) (f k a (omega (arith, v.most)))
              (one_mark kind i h (k - i) k (omega arith) (omega (arith, v.most)) (λ q x y. f q x (omega (arith, v.most))) (λ q x y. g q x (omega arith)));
        };
    rising = v.past;
  }
