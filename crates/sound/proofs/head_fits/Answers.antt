use lib.ListN.{drop}
use Rattle.words.specs.Words.{words}
use Rattle.sound_rows.proofs.Decide.{decides_iff}
use Rattle.sound.proofs.PlaceTests.{hash_is}
use Rattle.sound.proofs.head_fits.Goals as goal

pub returns : goal.returns
returns c =
    decides_iff c.is_zero.result
    (record {
      to = λ z. record {
        sizes = c.if-not-sizes_fit.ensures;
        poll = rw (c.get.ensures, c.get-2.ensures) at c.if-not-poll_fits.ensures;
        known = rw (c.get-3.ensures, hash_is (drop 9 (words c.args.s.now)) c.read_quad.ensures) at c.if-not-cursor_fits.ensures;
        ready = rw (c.get-4.ensures, hash_is (drop 14 (words c.args.s.now)) c.read_quad-2.ensures) at c.if-not-cursor_fits-2.ensures;
        spare = z;
      };
      from = λ h. h.spare;
    })
    c.is_zero.ensures
