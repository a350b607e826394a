-- `regions::seek_conn` meets its contract.
use mathlib.Core.Path.{sym, ap, ◌∙◌}
use Prim.Native.Nat.{ℕ}
use lib.Dec.{ltb}
use Rattle.words.specs.Words.{words}
use Rattle.words.proofs.Records.{length-recs}
use Rattle.regions.specs.Rows.{conn_size, conn_key}
use Rattle.regions.proofs.Rows.{conn-key_at}
use Rattle.regions.proofs.seek_conn.Goals as goal

pub returns : goal.returns
returns c =
    let w = words c.args.s.now in
    let n = c.args.n in
    c.lower_bound.ensures.bound _ c.args.c (length-recs conn_size conn_key n w) (λ i b h p. p ∙ ap (λ (x : ℕ). ltb x c.args.c) (sym (conn-key_at w n i h)))
