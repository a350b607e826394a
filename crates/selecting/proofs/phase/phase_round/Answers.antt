-- `selecting::phase::phase_round` meets its contract.
use Rattle.selecting.proofs.Rowwise.{round_phased}
use Rattle.selecting.proofs.phase.phase_round.Goals as goal

pub returns : goal.returns
returns c = round_phased _ c.cursor_at-c.ensures
    c.after_cursor-from.ensures.0
    c.rows-n.ensures.word
    c.opened.ensures
    c.keys_over-x.ensures c.keys_over.ensures
