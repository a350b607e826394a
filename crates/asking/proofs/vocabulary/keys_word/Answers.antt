-- `asking::vocabulary::keys_word` meets its contract.
use Rattle.asking.specs.Words.{keys_word}
use Rattle.asking.proofs.vocabulary.keys_word.Goals as goal

pub returns : goal.returns
unfolding keys_word
returns c =
    rw (
      c.named.ensures,
      c.named-w-4.ensures,
      c.named-w-3.ensures,
      c.named-w-2.ensures,
      c.named-w.ensures,
      c.hashes_word-w.ensures,
    )
