-- What sum does on a sound store: its figures are words of the header and a count over the rows; the store stays.
use Prim.Native.Nat.{ℕ, ◌+◌, ◌-◌, ◌*◌, ◌/◌, ◌≤◌}
use mathlib.Core.Path.{◌≡◌, refl, ◌∙◌}
use mathlib.Core.List.{List}
use native.Mathlib.Omega.{arith}
use lib.ListN.{take, get_or}
use Rattle.words.specs.Words.{words}
use Rattle.machine.specs.Limits.{max_announcements}
use Rattle.machine.specs.Table.{held}
use Rattle.machine.specs.Wrapper.{evictable, sum}
use Rattle.machine.specs.Claim.{elem}
use Rattle.machine.specs.Owners.{ascending}
use Rattle.machine.specs.Call.{Sum, On, named, any_late, takes_place, late, ask_refusal}
use Rattle.machine.specs.Step.{Summed, perform, written}
use Rattle.machine.proofs.Free.{evictable_few}
use Rattle.store.specs.Image.{SoundStore, Bytes}
use Rattle.std.specs.Prelude.{Ok}
use Rattle.requests.specs.Changes.{Tells}
use Rattle.outcome.specs.declared.Figures.{Figures}
use Rattle.outcome.specs.Outcome.{Leaves}
use Rattle.outcome.specs.Reply.{figures_of}
use Rattle.outcome.specs.Lent.{Lent}
use Rattle.outcome.proofs.Carried.{front_writes}
use Rattle.outcome.proofs.Contract.{does-nothing}
use Rattle.outcome.proofs.Header.{limit-word, held_word}

module _ (b : List ℕ) (w : SoundStore b) where
  -- m of the candidates in the bytes of the need can be evicted
  count_is : (m : ℕ) {e : ℕ} → Lent b e → Tells (take e b) (λ t. m ≡ evictable t) → m ≡ evictable w.state.table
  count_is m e c = c w.state w.sound (front_writes w e)

  pub figures-fit : (n l m : ℕ) {e : ℕ} → n ≡ get_or (words b) 3 0 → l ≡ get_or (words b) 1 0 → Lent b e → Tells (take e b) (λ t. m ≡ evictable t)
      → (1 ≤ l) × (l ≤ max_announcements) × (n ≤ l) × (m ≤ n)
  figures-fit n l m p q z c =
      let e : l ≡ w.state.limit = q ∙ limit-word b w in
      let d : n ≡ held w.state.table = p ∙ held_word b w in
      let f : held w.state.table ≤ w.state.limit = w.sound.bounded.fits in
      (omega (arith, w.sound.some_limit), omega (arith, w.sound.most-limit), omega arith, omega (arith, count_is m z c, evictable_few w.state.table))

  -- ---- sum

  pub summed : Bytes b → Leaves (On Sum) b b (Summed (sum w.state))
  unfolding ask_refusal named any_late takes_place late ascending elem perform written
  summed p = does-nothing b _ Sum w refl refl refl refl p refl

  pub sum-figures : (n l m : ℕ) {e : ℕ} {f : Figures} → Bytes b → n ≡ get_or (words b) 3 0 → l ≡ get_or (words b) 1 0 → Lent b e → Tells (take e b) (λ t. m ≡ evictable t)
      → f ≡ record { held = n; free = l - n; free_preferred = l - n + m; permille = n * 1000 / l }
      → Leaves (On Sum) b b (figures_of (Ok f))
  unfolding sum
  sum-figures n l m p u v z c e = rw (e, u ∙ held_word b w, v ∙ limit-word b w, count_is m z c) (summed p)
