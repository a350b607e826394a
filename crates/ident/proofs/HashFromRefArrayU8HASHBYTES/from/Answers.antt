-- A hash of 32 bytes is their number.
use mathlib.Core.Path.{◌∙◌, ap}
use native.Mathlib.Omega.{arith}
use lib.Seq.{take_all}
use Rattle.words.specs.Words.{number}
use Rattle.ident.specs.Words.{hash_bytes}
use Rattle.ident.proofs.HashFromRefArrayU8HASHBYTES.from.Goals as goal

pub returns : goal.returns
returns c =
    c.hash_at.ensures ∙ ap (number 256) (take_all hash_bytes c.args.bytes.now (omega arith))
