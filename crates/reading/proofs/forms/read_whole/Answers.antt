-- `reading::forms::read_whole` meets its contract.
use Rattle.reading.proofs.Filling.{whole_last}
use Rattle.reading.proofs.forms.read_whole.Goals as goal

pub returns : goal.returns
returns c = whole_last c.read_form.ensures c.in_ok-read_form.was c.last.ensures
