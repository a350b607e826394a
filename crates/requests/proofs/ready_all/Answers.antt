use mathlib.Core.Path.{refl}
use Rattle.ident.specs.Words.{key_num}
use Rattle.machine.specs.Table.{at}
use Rattle.machine.proofs.Loosened.{map-empty as readied-gone}
use Rattle.store.specs.Flat.{flat_of}
use Rattle.requests.proofs.Keeping.{kept_shown, from_at, to_at}
use Rattle.regions.specs.Rows.{with_ready}
use Rattle.requests.proofs.Readying.{window_made, readied, readied-rows, readied-places}
use Rattle.requests.proofs.ready_all.Goals as goal

pub change_rows-requires-clause-room : goal.change_rows-requires-clause-room
change_rows-requires-clause-room c = (kept_shown c.requires, c.window_of-w.ensures.most)

pub returns : goal.returns
returns c = λ st s w u.
    let k = key_num c.args.k in
    let key = c.from-key.ensures in
    let from = from_at st s k key.small key.number (c.window_of-w.ensures.from_is st s w) in
    let to = to_at st s k key.small key.number (c.window_of-w.ensures.to_is st s w) in
    let v = c.args.v in
    window_made (with_ready v) (λ q. refl) (λ q. refl) st s k (readied v) (readied-rows v (at k st.table)) (readied-places v (at k st.table))
    (readied-gone v (at k st.table).candidates) from to (c.change_rows.ensures (with_ready v) (λ _ _ p. p.1) (flat_of st) w)
