use native.Mathlib.Omega.{arith}
use Rattle.words.specs.Words.{words}
use Rattle.sound_conns.specs.Conns.{names}
use Rattle.sound_conns.proofs.Entries.{length-names}
use Rattle.sound_conns.proofs.Tally.{taking}
use Rattle.sound_conns.proofs.take_row.Goals as goal

pub returns : goal.returns
returns c =
    let a = c.args in
    let w = words a.pass.conns.bytes.now in (
      taking (names a.pass.conns.count w) a.pass.done a.pass.last a.pass.lo a.x a.own a.t.now c.find_entry-k.result
          c.take_off.new.t (omega (arith, length-names a.pass.conns.count w))
          (c.find_entry-k.ensures.found (omega arith)) c.take_off.result
          a.pass.rising c.take_off.ensures.0,
      c.take_off.ensures.1,
    )
