use Rattle.words.specs.Words.{words}
use Rattle.sound_conns.specs.Conns.{names}
use Rattle.sound_conns.proofs.Entries.{length-names, place-absent}
use Rattle.sound_conns.proofs.guesses.seek_entry.Goals as goal

pub returns : goal.returns
returns c =
    let n = c.args.pass.conns.count in
    let w = words c.args.pass.conns.bytes.now in
    place-absent (names n w) n c.args.x c.seek_conn-i.result (length-names n w) c.seek_conn-i.ensures c.if-is_entry-3.ensures
