-- Words of bytes are below 2^64, so that the records read from them are in their ranges.
use Prim.Native.Nat.{ℕ, ◌+◌, ◌*◌, ◌≤◌, ◌<◌}
use mathlib.Core.Path.{◌≡◌}
use mathlib.Core.Logic.{inl, inr}
use mathlib.Core.List.{List}
use native.Mathlib.Omega.{arith}
use mir.Syntax.{w8}
use mir.Val.{Fits}
use lib.Dec.{ltb}
use lib.ListN.{length, take, drop, get_or, length-take, get_or-eq_default}
use lib.Seq.{get_or-take, get_or-drop, length-take-le}
use borrow.Author.Tests.{ltb-true, ltb-false}
use Rattle.words.specs.Words.{words}
use Rattle.words.proofs.Words.{length-words, word_at}
use Rattle.words.proofs.Digits.{number_below}
use Rattle.machine.specs.Limits.{word}
use Rattle.machine.proofs.Tests.{test}
use Rattle.regions.specs.declared.Row.{Row}
use Rattle.regions.specs.declared.Quad.{Quad}
use Rattle.regions.specs.contracts.Quad as Q
use Rattle.regions.proofs.Quad.TheLaws as Q'
use Rattle.regions.specs.contracts.Row as R
use Rattle.regions.proofs.Row.TheLaws as R'
use denote.Laws.{Is}
use denote.Struct.Laws as LL
use Rattle.regions.specs.Rows.{read_quad}
use Rattle.store.specs.FlatSound.{QuadFits}

-- every element is below b
abbrev pub Below : ℕ → List ℕ → Type 0
Below b w = (i : ℕ) → get_or w i 0 < b

pub below_bytes : (s : List ℕ) → ((i : ℕ) → Fits w8 (get_or s i 0)) → Below 256 s
below_bytes s h i = omega (arith, h i)

pub below_drop : (b k : ℕ) (w : List ℕ) → Below b w → Below b (drop k w)
below_drop b k w h i = rw (get_or-drop k w i 0) (h (k + i))

pub below_take : (b k : ℕ) (w : List ℕ) → 0 < b → Below b w → Below b (take k w)
below_take b k w p h i = elim (test (ltb i k)) [
  | inl e ↦ rw (get_or-take k w i 0 (ltb-true i k e)) (h i)
  | inr e ↦ rw (get_or-eq_default (take k w) 0 {n = i} (simp length-take (omega (arith, ltb-false i k e)))) p
]

-- the words of bytes
pub below_words : (s : List ℕ) → Below 256 s → Below word (words s)
below_words s h i = elim (test (ltb i (length (words s)))) [
  | inl e ↦
      let l : 8 * i + 8 ≤ length s = omega (arith, ltb-true i (length (words s)) e, length-words s) in
      let t : length (take 8 (drop (8 * i) s)) ≡ 8 = length-take-le 8 (drop (8 * i) s) (simp lib.ListN.length-drop (omega arith)) in
      rw (word_at s i l) (rw t at (number_below 256 (take 8 (drop (8 * i) s)) (λ k _. below_take 256 8 (drop (8 * i) s) (omega arith) (below_drop 256 (8 * i) s h) k)))
  | inr e ↦ rw (get_or-eq_default (words s) 0 {n = i} (ltb-false i (length (words s)) e)) (omega arith)
]

-- ---- rows

pub record RowRanges (r : Row) : Type 0 where
  pub hash : QuadFits r.hash
  pub conn : r.conn < word
  pub ready : r.ready < word
  pub prio : r.prio < word
  pub deadline : r.deadline < word

pub quad_ranges : (w : List ℕ) → Below word w → QuadFits (read_quad w)
quad_ranges w b = record { w0 = b 0; w1 = b 1; w2 = b 2; w3 = b 3 }

-- a value of the declared type has fields of 64 bits
quad-typed : (q : Quad) → Is Q.the_row q (LL.vals Q.the_type Q'.the_laws q) → QuadFits q
quad-typed q g = let f = LL.owed Q.the_type Q'.the_laws q _ g in record { w3 = f.0.1; w2 = f.1.0.1; w1 = f.1.1.0.1; w0 = f.1.1.1.0.1 }

pub row-typed : (r : Row) → Is R.the_row r (LL.vals R.the_type R'.the_laws r) → RowRanges r
row-typed r g =
    let f = LL.owed R.the_type R'.the_laws r _ g in
    record { hash = quad-typed r.hash f.0; conn = f.1.0.1; ready = f.1.1.0.1; prio = f.1.1.1.0.1; deadline = f.1.1.1.1.0.1 }
