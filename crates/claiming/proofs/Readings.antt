-- Entries read from bytes.
use Prim.Native.Nat.{ℕ, suc, ◌+◌, ◌-◌, ◌*◌, ◌<◌}
use mathlib.Core.Path.{◌≡◌, refl}
use mathlib.Core.Bool.{not}
use mathlib.Core.List.{List, [], ◌∷◌}
use native.Mathlib.Omega.{arith}
use lib.Dec.{eqb}
use lib.ListN.{get_or}
use Rattle.ident.specs.Number.{Key, Item}
use Rattle.words.specs.Words.{words}
use Rattle.claiming.specs.Claiming.{key_from, item_from, entry_from, entries_from}

pub entry_read : (b : List ℕ) (i : ℕ) {k : Key} {n : ℕ} {t : Item} {r p v : ℕ} → k ≡ key_from b (i * 14) → n ≡ get_or (words b) (i * 14 + 5) 0 → t ≡ item_from b (i * 14 + 6)
    → r ≡ get_or (words b) (i * 14 + 11) 0 → p ≡ get_or (words b) (i * 14 + 12) 0 → v ≡ get_or (words b) (i * 14 + 13) 0
    → record { key = k; candidate = record { connection = n; item = t; ready = r; preferred = not (eqb p 0); priority = v } } ≡ entry_from b i
unfolding entry_from
entry_read b i e f g h j l = rw (e, f, g, h, j, l) refl

-- the next of the entries from the i-th on
pub entries_next : (b : List ℕ) (i m : ℕ) → i < m → entries_from b i (m - i) ≡ entry_from b i ∷ entries_from b (i + 1) (m - (i + 1))
unfolding entries_from
entries_next b i m l = let e : m - i ≡ suc (m - (i + 1)) = omega arith in rw e refl

pub entries_end : (b : List ℕ) (i m : ℕ) → m - i ≡ 0 → entries_from b i (m - i) ≡ []
unfolding entries_from
entries_end b i m e = rw e refl
