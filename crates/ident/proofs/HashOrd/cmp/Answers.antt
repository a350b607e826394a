-- The order of hashes meets its contract: the words are compared from the most significant one down.
use mathlib.Core.Path.{◌≡◌, ◌∙◌}
use Rattle.std.specs.declared.cmp.Ordering.{Ordering}
use Rattle.std.specs.Ordering.{ordering_then}
use Rattle.ident.proofs.WordByWord.{by_words_back}
use native.Mathlib.Omega.{arith}
use Rattle.ident.proofs.HashOrd.cmp.Goals as goal

-- what the calls gave, put together
chain : (o₀ o₁ o₂ o₃ r₀ r₁ r₂ p₀ p₁ p₂ p₃ : Ordering) → o₃ ≡ p₃ → o₂ ≡ p₂ → r₂ ≡ ordering_then o₃ o₂ → o₁ ≡ p₁ → r₁ ≡ ordering_then r₂ o₁ → o₀ ≡ p₀ → r₀ ≡ ordering_then r₁ o₀
    → r₀ ≡ ordering_then (ordering_then (ordering_then p₃ p₂) p₁) p₀
chain o₀ o₁ o₂ o₃ r₀ r₁ r₂ p₀ p₁ p₂ p₃ e₃ e₂ f₂ e₁ f₁ e₀ f₀ = cc

pub returns : goal.returns
returns c =
    chain _ _ _ _ _ _ _ _ _ _ _ c.cmp.ensures c.cmp-2.ensures c.then.ensures c.cmp-3.ensures c.then-2.ensures c.cmp-4.ensures c.then-3.ensures
    ∙ by_words_back c.args.self.now c.args.other.now (omega arith) (omega arith)
