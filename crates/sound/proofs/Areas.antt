-- A region's words are those that its records are written as, with zeros behind them.
use Prim.Native.Nat.{ℕ, ◌-◌, ◌*◌, ◌≤◌}
use mathlib.Core.Path.{◌≡◌, sym, ap, ◌∙◌}
use mathlib.Core.List.{List, ◌++◌}
use native.Mathlib.Omega.{arith}
use lib.ListN.{length, take, drop, replicate, length-take, take-append-drop}
use lib.Seq.{slice, take_all}
use Rattle.words.specs.Words.{recs}
use Rattle.words.proofs.Records.{recs_front}
use Rattle.regions.specs.Regions.{each, padded}
use Rattle.regions.specs.Rows.{row_size, read_row, row_words, conn_size, read_conn, conn_words}
use Rattle.regions.proofs.Regions.{padded-fit}
use Rattle.regions.proofs.Columns.{row_back as row-nine, conn_back as conn-three}
use Rattle.machine.specs.Limits.{word}
use Rattle.sound_rows.proofs.Decide.{Iff}
use Rattle.sound_rows.proofs.Ranges.{Below}
use Rattle.sound.proofs.Exact.{each_back, cut_iff}

-- the words r of a region are w, and then zeros
pub area_iff : (r w : List ℕ) (n : ℕ) → length w ≡ n → n ≤ length r → Iff (r ≡ padded (length r) w) ((take n r ≡ w) × (slice n (length r) r ≡ replicate (length r - n) 0))
area_iff r w n e h =
    let p : padded (length r) w ≡ w ++ replicate (length r - n) 0 = rw (← e) (padded-fit (length r) w (omega arith)) in
    let t : take (length r) r ≡ r = take_all (length r) r (omega arith) in
    let c = cut_iff n r w (replicate (length r - n) 0) e in
    record {
      to = λ q. let d = c.to (q ∙ p) in (d.0, rw t d.1);
      from = λ d. c.from (d.0, rw t at d.1) ∙ sym p;
    }

-- ---- rows and connections are their words

pub rows_exact : (n : ℕ) (r : List ℕ) → row_size * n ≤ length r → Below word r → take (row_size * n) r ≡ each row_words (recs row_size read_row n r)
rows_exact n r h b = sym (each_back row_size row_words read_row (λ u e _. row-nine u e) n r h b)

pub conns_exact : (n : ℕ) (r : List ℕ) → conn_size * n ≤ length r → Below word r → take (conn_size * n) r ≡ each conn_words (recs conn_size read_conn n r)
conns_exact n r h b = sym (each_back conn_size conn_words read_conn (λ u e _. conn-three u e) n r h b)

-- the records of a part are those of the whole
pub recs-lent : {A : Type 0} (k : ℕ) (f : List ℕ → A) (n m : ℕ) (u : List ℕ) → k * n ≤ m → m ≤ length u → recs k f n (take m u) ≡ recs k f n u
recs-lent k f n m u h l =
    let t : k * n ≤ length (take m u) = simp length-take (omega arith) in
    sym (recs_front k f n (take m u) (drop m u) t) ∙ ap (recs k f n) (take-append-drop m u)
