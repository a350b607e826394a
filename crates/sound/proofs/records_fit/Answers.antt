use Rattle.words.proofs.Words.{length-words}
use Rattle.sound_rows.proofs.Decide.{decides_iff}
use Rattle.sound.proofs.records_fit.Goals as goal

pub returns : goal.returns
returns c =
    let rows = c.if-not-rows_fit.ensures.0 in
    decides_iff c.is_zero-3.result (record {
      to = λ z. record {
        rows = rows;
        groups = c.if-not-rows_fit.ensures.1;
        conns = c.if-not-conns_fit.ensures rows;
        places = c.if-not-places_fit.ensures rows;
        rows-zero = rw (length-words c.args.rows.bytes.now) c.if-not-is_zero.ensures;
        conns-zero = rw (length-words c.args.conns.bytes.now) c.if-not-is_zero-2.ensures;
        places-zero = rw (length-words c.args.places.now) z;
      };
      from = λ s. rw (length-words c.args.places.now) at s.places-zero;
    })
    c.is_zero-3.ensures
