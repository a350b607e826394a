-- `sending::witness::marked` meets its contract.
use Rattle.ident.specs.Words.{key_num}
use Rattle.machine.specs.Table.{at}
use Rattle.store.specs.Flat.{row_of, flat_of}
use Rattle.requests.proofs.Keeping.{from_at, to_at}
use Rattle.requests.proofs.Pushing.{its-mark}
use Rattle.claiming.specs.Claiming.{entry_of, no_entry}
use Rattle.sending.proofs.witness.marked.Goals as goal

pub returns : goal.returns
returns c = λ st s w.
    let k = key_num c.args.k in
    let key = c.from.ensures in
    let win = c.window_of-w.ensures in
    let d = row_of (at k st.table) (entry_of no_entry).candidate in
    let from = from_at st s k key.small key.number (win.from_is st s w) in
    let to = to_at st s k key.small key.number (win.to_is st s w) in
    its-mark st s k d from to (c.mark_in.ensures (flat_of st) d w)
