-- `reading::forms::read_form` meets its contract. The loop's invariant: the fields of the letters so far are read, and come to what was taken.
use Rattle.reading.proofs.Filling.{Begun}
use Rattle.reading.proofs.forms.read_form.Given as goal

abbrev pub invariant-loop-f : goal.invariant-loop-f
invariant-loop-f l = Begun l.line l.e l.form l.f-index l.taken.value l.taken.end
