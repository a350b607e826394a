use native.Mathlib.Omega.{arith}
use Prim.Native.Nat.{◌+◌, ◌*◌}
use Rattle.words.proofs.Parts.{words-lent}
use Rattle.sound_rows.proofs.Decide.{decides_iff}
use Rattle.sound.proofs.StoreTests.{store_iff}
use Rattle.sound.proofs.sound.Goals as goal

pub returns : goal.returns
returns c =
    let b = c.args.s.now in
    let l = c.limit-l.result in
    let q = c.places-q.result in
    let x = 24 + l * 9 in
    let y = 24 + l * 9 + l * 3 in
    let z = 24 + l * 9 + l * 3 + q * 824 in
    let i = store_iff b c.type_inv.s l q c.limit-l.ensures.word c.places-q.ensures.word c.rows-n.result c.conns-c.result c.held_places-p.result c.rows-n.ensures.word c.conns-c.ensures.word
    c.held_places-p.ensures.word c.if-not-head_fits.ensures (omega arith) in
    decides_iff c.records_fit.result i
    (rw (
      c.new-rows.ensures.0,
      c.new-rows.ensures.1,
      c.new-conns.ensures.0,
      c.new-conns.ensures.1,
      words-lent b 24 x (omega arith) (omega arith),
      words-lent b x y (omega arith) (omega arith),
      words-lent b y z (omega arith) (omega arith),
    ) at c.records_fit.ensures)
