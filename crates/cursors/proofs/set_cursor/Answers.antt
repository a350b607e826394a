use native.Mathlib.Omega.{arith}
use Rattle.words.specs.Words.{words}
use Rattle.words.proofs.Words.{length-words}
use Rattle.regions.specs.Rows.{quad_words}
use Rattle.cursors.proofs.HeaderWords.{set_more}
use Rattle.cursors.proofs.set_cursor.Goals as goal

pub returns : goal.returns
returns c =
    let w = words c.args.s.now in
    let tag = c.words_of-tag.result.0 in
    let hash = c.words_of-tag.result.1 in
    rw (← c.words_of-tag.ensures) (set_more w c.args.a tag (quad_words hash) (omega (arith, length-words c.args.s.now, c.requires)) c.put.ensures.word c.write_quad.ensures)
