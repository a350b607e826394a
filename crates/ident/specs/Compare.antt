-- The order of two hashes, by their words: the last word is the most significant.
use Rattle.std.specs.Prelude.{◌≡◌, ℕ, Bool, true, false, List, reverse, nat_eq}
use mathlib.Core.Path.{refl, sym, ap, ◌∙◌}
use Rattle.std.proofs.lemmas.List.{reverse-reverse}
use Rattle.std.specs.declared.cmp.Ordering.{Ordering}
use Rattle.std.specs.Ordering.{nat_cmp, on, eq_by_cmp}
use Rattle.std.specs.Cmp.Lexicographic.{pointwise, slice_cmp, texts_ties, same_text, other_text}

abbrev pub high_first : List ℕ → List ℕ → Ordering
high_first = on reverse (slice_cmp nat_cmp)

-- lists are equal exactly where they are so turned round
same_reversed : (xs ys : List ℕ) → pointwise nat_eq xs ys ≡ pointwise nat_eq (reverse xs) (reverse ys)
same_reversed xs ys = both _ _ refl refl
  where
    both : (a b : Bool) → a ≡ pointwise nat_eq xs ys → b ≡ pointwise nat_eq (reverse xs) (reverse ys) → a ≡ b
    both true true d e = refl
    both false false d e = refl
    both true false d e = absurd (other_text _ _ e (ap (λ (l : List ℕ). reverse l) (same_text xs ys d)))
    both false true d e = absurd (other_text xs ys d (sym (reverse-reverse xs) ∙ ap (λ (l : List ℕ). reverse l) (same_text (reverse xs) (reverse ys) e) ∙ reverse-reverse ys))

pub high_first_ties : (xs ys : List ℕ) → pointwise nat_eq xs ys ≡ eq_by_cmp high_first xs ys
high_first_ties xs ys = same_reversed xs ys ∙ texts_ties (reverse xs) (reverse ys)
