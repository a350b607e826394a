use mathlib.Core.Path.{◌≡◌}
use mathlib.Core.Bool.{Bool}
use mathlib.Core.List.{List}
use Prim.Native.Nat.{ℕ}
use lib.ListN.{length}
use denote.Ref.{Bor}
use Rattle.words.specs.Words.{words}
use Rattle.regions.proofs.Retaining.{Retaining}
use Rattle.regions.proofs.keep.sift.Given as goal

abbrev pub invariant-loop-i : goal.invariant-loop-i
invariant-loop-i g l =
    let r = g.R.Record in
    Retaining r.WORDS r.to_words (λ q. (x : r.Value) (u : Bor (List ℕ)) (b : Bool) → words u.now ≡ r.to_words x → goal.F-post g l.stays u b → b ≡ q x) (words l.initial.s) (words l.s) l.n l.i l.m
    × (length l.s ≡ length l.initial.s)
