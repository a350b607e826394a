-- `regions::near::seek_row_near` meets its contract.
use mathlib.Core.Path.{sym, ap, ◌∙◌}
use Prim.Native.Nat.{ℕ}
use lib.Dec.{ltb}
use Rattle.words.specs.Words.{words}
use Rattle.words.proofs.Records.{length-recs}
use Rattle.regions.specs.Rows.{row_size, row_key, start_number}
use Rattle.regions.proofs.Rows.{row-key_at}
use Rattle.regions.proofs.near.seek_row_near.Goals as goal

pub returns : goal.returns
returns c =
    let w = words c.args.s.now in
    let n = c.args.n in
    let k = start_number c.args.start in
    c.lower_bound_near.ensures.bound _ k (length-recs row_size row_key n w) (λ i b h p. p ∙ ap (λ (x : ℕ). ltb x k) (sym (row-key_at w n i h)))
