-- `asking::vocabulary::word_of` meets its contract.
use Rattle.asking.specs.Words.{word_of}
use Rattle.asking.proofs.vocabulary.word_of.Goals as goal

pub returns : goal.returns
unfolding word_of
returns c =
    rw (
      c.named.ensures,
      c.named-w.ensures,
      c.request_word-w.ensures,
    )
