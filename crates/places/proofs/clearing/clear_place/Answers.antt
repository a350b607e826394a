-- `places::clearing::clear_place` meets its contract.
use Prim.Native.Nat.{ℕ, ◌+◌, ◌*◌}
use mathlib.Core.Path.{ap, ◌∙◌}
use native.Mathlib.Omega.{arith}
use Rattle.words.specs.Words.{words, splice}
use Rattle.words.proofs.Words.{length-words}
use Rattle.places.specs.Places.{place_size, wtxids_at, parents_at}
use Rattle.places.proofs.Cleared.{zeros, cleared_at}
use Rattle.places.proofs.clearing.clear_place.Goals as goal

pub returns : goal.returns
returns c =
    cleared_at (words c.args.s.now) c.args.i (omega (arith, length-words c.args.s.now, c.requires)) c.get.result c.get-2.result c.get.ensures c.get-2.ensures
    (c.clear.ensures ∙ ap (λ (k : ℕ). splice (words c.args.s.now) (c.args.i * place_size) (zeros (wtxids_at + k))) c.taken-wtxids.ensures)
    (c.clear-2.ensures ∙ ap (λ (k : ℕ). splice (words c.clear.new.s) (c.args.i * place_size + parents_at) (zeros k)) c.taken-parents.ensures)
