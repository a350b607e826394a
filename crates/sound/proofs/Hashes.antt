-- Hashes in words: equal as numbers exactly if equal word by word, and lists of them.
use Prim.Native.Nat.{ℕ, ◌+◌, ◌*◌, ◌≤◌, ◌<◌}
use mathlib.Core.Path.{◌≡◌, refl, sym, ap, ◌∙◌}
use mathlib.Core.Bool.{true, false}
use mathlib.Core.List.{List, [], ◌∷◌}
use native.Mathlib.Omega.{arith}
use lib.ListN.{take, drop}
use lib.Seq.{drop-drop, get_or-take}
use borrow.Author.Tests.{eq-eqb, ne_eqb}
use Rattle.words.specs.Words.{number}
use Rattle.regions.specs.declared.Quad.{Quad}
use Rattle.regions.specs.Rows.{read_quad, quad_number}
use Rattle.machine.specs.Claim.{elem}
use Rattle.store.specs.Read.{read_hash}
use Rattle.sound.specs.Places.{hashes_in}
use Rattle.sound_rows.proofs.Decide.{rest_turn, rest_none}

-- ---- a list of hashes

pub quad_take : (u : List ℕ) → read_quad (take 4 u) ≡ read_quad u
quad_take u = rw (get_or-take 4 u 0 0 (omega arith), get_or-take 4 u 1 0 (omega arith), get_or-take 4 u 2 0 (omega arith), get_or-take 4 u 3 0 (omega arith))

module _ (w : List ℕ) (a : ℕ) where
  -- as `read_quad` reads it
  pub hash_read : (k : ℕ) {q : Quad} → q ≡ read_quad (drop (a + k * 4) w) → quad_number q ≡ read_hash (take 4 (drop (4 * k) (drop a w)))
  unfolding read_hash
  hash_read k e =
      let g : a + k * 4 ≡ a + 4 * k = omega arith in
      ap quad_number (e ∙ ap (λ (i : ℕ). read_quad (drop i w)) g ∙ ap read_quad (sym (drop-drop (4 * k) a w)) ∙ sym (quad_take (drop (4 * k) (drop a w))))

  pub hashes_turn : (k n : ℕ) → k < n → hashes_in w a k n ≡ read_hash (take 4 (drop (4 * k) (drop a w))) ∷ hashes_in w a (k + 1) n
  hashes_turn k n h = rest_turn 4 read_hash n k (drop a w) h

  pub hashes_none : (k n : ℕ) → n ≤ k → hashes_in w a k n ≡ []
  hashes_none k n h = rest_none 4 read_hash n k (drop a w) h

  module _ (k n : ℕ) (h : k < n) {q : Quad} (e : q ≡ read_quad (drop (a + k * 4) w)) where
    pub elem_here : (x : ℕ) → quad_number q ≡ x → elem x (hashes_in w a k n) ≡ true
    unfolding elem
    elem_here x g = rw (hashes_turn k n h, eq-eqb _ x (sym (hash_read k e) ∙ g))

    pub elem_past : (x : ℕ) → (quad_number q ≡ x → ⊥) → elem x (hashes_in w a k n) ≡ elem x (hashes_in w a (k + 1) n)
    unfolding elem
    elem_past x g = rw (hashes_turn k n h, ne_eqb _ x (λ z. g (hash_read k e ∙ z)))

  pub elem_end : (x k n : ℕ) → n ≤ k → elem x (hashes_in w a k n) ≡ false
  unfolding elem
  elem_end x k n h = rw (hashes_none k n h)

-- for the tactic
pub ruleset searched = (elem_here, elem_past, elem_end)
