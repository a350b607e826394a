-- `asking::vocabulary::hashes_word` meets its contract.
use Rattle.asking.specs.Words.{hashes_word}
use Rattle.asking.proofs.vocabulary.hashes_word.Goals as goal

pub returns : goal.returns
unfolding hashes_word
returns c =
    rw (
      c.named.ensures,
      c.named-w-5.ensures,
      c.named-w-4.ensures,
      c.named-w-3.ensures,
      c.named-w-2.ensures,
      c.named-w.ensures,
      c.plan_word-w.ensures,
    )
