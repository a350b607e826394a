-- `asking::vocabulary::package_word` meets its contract.
use Rattle.asking.specs.Words.{package_word}
use Rattle.asking.proofs.vocabulary.package_word.Goals as goal

pub returns : goal.returns
unfolding package_word
returns c =
    rw (
      c.named.ensures,
      c.named-w-5.ensures,
      c.named-w-4.ensures,
      c.named-w-3.ensures,
      c.named-w-2.ensures,
      c.named-w.ensures,
      c.keys_word-w.ensures,
    )
