-- The words of a row or a connection's entry are those that it was read from.
use Prim.Native.Nat.{ℕ, zero, suc, ◌<◌}
use mathlib.Core.Path.{◌≡◌, refl, sym}
use mathlib.Core.List.{List}
use native.Mathlib.Omega.{arith}
use lib.ListN.{length, get_or}
use lib.Seq.{ext_get_or}
use Rattle.regions.specs.Rows.{row_size, conn_size, row_words, read_row, conn_words, read_conn}

-- ---- rows

row_word : (x : List ℕ) (i : ℕ) → i < row_size → get_or (row_words (read_row x)) i 0 ≡ get_or x i 0
unfolding row_words read_row
row_word x zero h = refl
row_word x (suc zero) h = refl
row_word x (suc (suc zero)) h = refl
row_word x (suc (suc (suc zero))) h = refl
row_word x (suc (suc (suc (suc zero)))) h = refl
row_word x (suc (suc (suc (suc (suc zero))))) h = refl
row_word x (suc (suc (suc (suc (suc (suc zero)))))) h = refl
row_word x (suc (suc (suc (suc (suc (suc (suc zero))))))) h = refl
row_word x (suc (suc (suc (suc (suc (suc (suc (suc zero)))))))) h = refl
row_word x (suc (suc (suc (suc (suc (suc (suc (suc (suc i))))))))) h = absurd (omega arith)

pub row_back : (x : List ℕ) → length x ≡ row_size → row_words (read_row x) ≡ x
unfolding row_words
row_back x l = ext_get_or 0 (row_words (read_row x)) x (sym l) (λ i h. row_word x i h)

-- ---- connections

conn-word : (x : List ℕ) (i : ℕ) → i < conn_size → get_or (conn_words (read_conn x)) i 0 ≡ get_or x i 0
unfolding conn_words read_conn
conn-word x zero h = refl
conn-word x (suc zero) h = refl
conn-word x (suc (suc zero)) h = refl
conn-word x (suc (suc (suc i))) h = absurd (omega arith)

pub conn_back : (x : List ℕ) → length x ≡ conn_size → conn_words (read_conn x) ≡ x
unfolding conn_words
conn_back x l = ext_get_or 0 (conn_words (read_conn x)) x (sym l) (λ i h. conn-word x i h)
