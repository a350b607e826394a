use mathlib.Core.List.{[]}
use native.Mathlib.Nat.{le_refl}
use Rattle.words.specs.Words.{words, Decides}
use Rattle.sound_rows.specs.Groups.{Apart}
use Rattle.sound_rows.specs.Parts.{rows_of}
use Rattle.sound_rows.proofs.Decide.{decides_iff}
use Rattle.sound_rows.proofs.Groups.{in_none}
use Rattle.sound_rows.proofs.group.conns_once.Goals as goal

pub returns : goal.returns
returns c =
    let x = c.args in
    let d : Decides c.apart-2.result (Apart [] (rows_of x.b)) =
    rw (c.new.ensures.0, c.new.ensures.1, c.new.ensures.2, in_none (words x.b.rows.bytes.now) x.b.to x.b.to (le_refl _)) at c.apart-2.ensures in
    decides_iff {P = Apart [] (rows_of x.b)} c.apart-2.result (record { to = λ q. (c.if-not-apart.ensures, q); from = λ o. o.1 }) d
