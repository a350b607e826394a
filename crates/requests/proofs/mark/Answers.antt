use mathlib.Core.Path.{refl}
use Rattle.ident.specs.Words.{key_num}
use Rattle.machine.specs.State.{marked}
use Rattle.machine.specs.Table.{at}
use Rattle.store.specs.Flat.{flat_of}
use Rattle.requests.proofs.Keeping.{kept_shown, from_at, to_at}
use Rattle.store.specs.Stamps.{marked_row}
use Rattle.requests.proofs.Readying.{window_made, marked-rows, marked-places, marked-owns}
use Rattle.requests.proofs.mark.Goals as goal

pub change_rows-requires-clause-room : goal.change_rows-requires-clause-room
change_rows-requires-clause-room c = (kept_shown c.requires, c.window_of-w.ensures.most)

pub returns : goal.returns
returns c = λ st s w u.
    let k = key_num c.args.k in
    let key = c.from-key.ensures in
    let from = from_at st s k key.small key.number (c.window_of-w.ensures.from_is st s w) in
    let to = to_at st s k key.small key.number (c.window_of-w.ensures.to_is st s w) in
    window_made marked_row (λ q. refl) marked-owns st s k marked (marked-rows (at k st.table)) (marked-places (at k st.table)) (λ z. z) from to
    (c.change_rows.ensures marked_row (λ _ _ p. p.1) (flat_of st) w)
