-- `gathering::beside::waiting_row` meets its contract.
use mathlib.Core.Path.{refl, ◌∙◌}
use Rattle.ident.specs.Words.{key_num}
use Rattle.machine.specs.Table.{at}
use Rattle.store.specs.Flat.{flat_of}
use Rattle.requests.proofs.Keeping.{from_at, to_at}
use Rattle.requests.proofs.Pushing.{its-hash, its-kind, its-mark}
use Rattle.gathering.proofs.beside.waiting_row.Goals as goal

pub returns : goal.returns
returns c = λ st s w o.
    let k = key_num c.args.k in
    let key = c.from-key.ensures in
    let from = from_at st s k key.small refl (c.requires.1.from_is st s w) in
    let to = to_at st s k key.small refl (c.requires.1.to_is st s w) in
    let m = its-mark st s k c.new_row.result from to (c.mark_in-mark.ensures (flat_of st) c.new_row.result w) in
    c.new_row.ensures (at k st.table) (key.hash ∙ its-hash st s k key.small) (key.kind ∙ its-kind st s k key.small) o m
