-- `asking::vocabulary::request_word` meets its contract.
use Rattle.asking.specs.Words.{request_word}
use Rattle.asking.proofs.vocabulary.request_word.Goals as goal

pub returns : goal.returns
unfolding request_word
returns c =
    rw (
      c.named.ensures,
      c.named-w-4.ensures,
      c.named-w-3.ensures,
      c.named-w-2.ensures,
      c.named-w.ensures,
      c.package_word-w.ensures,
    )
