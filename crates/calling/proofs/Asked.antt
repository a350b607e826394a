-- The call of a word that is known, with its values as the code has them and as the line has them.
use Prim.Native.Nat.{ℕ}
use mathlib.Core.Path.{◌≡◌, sym, subst}
use mathlib.Core.List.{List}
use Rattle.machine.specs.Call.{Ask, On}
use Rattle.machine.specs.Step.{Reply}
use Rattle.outcome.specs.Outcome.{Effect, Does, Leaves}
use Rattle.reading.specs.Forms.{Values}
use Rattle.asking.specs.declared.vocabulary.NumberWord.{NumberWord}
use Rattle.asking.specs.declared.vocabulary.KeysWord.{KeysWord}
use Rattle.asking.specs.declared.vocabulary.HashesWord.{HashesWord}
use Rattle.asking.specs.Calls.{number_ask, keys_ask, hashes_ask}
use Rattle.printing.specs.Given.{Carried}
use Rattle.printing.proofs.Printing.{carried_is, does_is}

pub did : (v : Values) {w x : NumberWord} {a : Ask} {b b' : List ℕ} {y : Reply} → w ≡ x → a ≡ number_ask x v → Leaves (On a) b b' y → Leaves (On (number_ask w v)) b b' y
did v {w} {x} {a} {b} {b'} {y} g h d = subst (λ (z : NumberWord). Leaves (On (number_ask z v)) b b' y) (sym g) (subst (λ (z : Ask). Leaves (On z) b b' y) h d)

pub listing-did : (v : Values) {w x : KeysWord} {a : Ask} {b : List ℕ} {e : Effect} → w ≡ x → a ≡ keys_ask x v → Does (On a) b e → Does (On (keys_ask w v)) b e
listing-did v {w} {x} {a} {b} {e} g h d = subst (λ (z : KeysWord). Does (On (keys_ask z v)) b e) (sym g) (does_is h d)

pub hashes-did : (v : Values) (hs : List ℕ) {w x : HashesWord} {a : Ask} {b b' out out' : List ℕ} {r : ℕ} → w ≡ x → a ≡ hashes_ask x v hs → Carried (On a) b b' out out' r
    → Carried (On (hashes_ask w v hs)) b b' out out' r
hashes-did v hs {w} {x} {a} {b} {b'} {out} {out'} {r} g h c = subst (λ (z : HashesWord). Carried (On (hashes_ask z v hs)) b b' out out' r) (sym g) (carried_is h c)
