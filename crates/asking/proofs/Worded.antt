-- The first field of a line is the call's word.
use Prim.Native.Nat.{ℕ, ◌+◌, ◌-◌}
use mathlib.Core.Path.{◌≡◌, sym, ap, ◌∙◌}
use mathlib.Core.List.{List, ◌∷◌}
use mathlib.Core.Option.{Option}
use native.Mathlib.Omega.{arith}
use lib.ListN.{length, take, drop}
use Rattle.std.specs.Prelude as answer
use Rattle.reading.specs.Line.{Line}
use Rattle.machine.specs.Fields.{before, rest}
use Rattle.lines.proofs.Splitting.{rest_field, rest_start}
use Rattle.asking.specs.declared.vocabulary.Word.{Word}
use Rattle.asking.specs.Words.{word_of}
use Rattle.asking.specs.Calls.{line_with, line_named, called, line_of}

pub worded : (l : List ℕ) (e : ℕ) {w : answer.Option Word} → e ≡ 0 + length (before 44 (drop 0 l)) → w ≡ word_of (take e l) → line_named w (rest l (e + 1)) ≡ line_of l
unfolding line_of called
worded l e {w} g h =
    let z : e - 0 ≡ e = omega arith in
    ap (λ (x : answer.Option Word). line_named x (rest l (e + 1))) h ∙ sym (ap called (sym (rest_start l) ∙ rest_field l 0 e (omega arith) g ∙ ap (λ (n : ℕ). take n l ∷ rest l (e + 1)) z))

-- the call of a word that is known
pub with_word : (fs : List (List ℕ)) {w v : Word} {o : Option Line} → w ≡ v → o ≡ line_with v fs → o ≡ line_with w fs
with_word fs g p = p ∙ ap (λ (x : Word). line_with x fs) (sym g)
