use Rattle.std.specs.Prelude.{Some, None}
use mathlib.Core.Path.{refl, ◌∙◌}
use Rattle.ident.specs.Words.{key_num}
use Rattle.ident.proofs.Words.{key-four, hash_below}
use Rattle.machine.specs.Table.{at}
use Rattle.store.specs.Flat.{flat_of}
use Rattle.store.proofs.RowsAt.{among}
use Rattle.requests.specs.Changes.{candidate_of}
use Rattle.requests.proofs.Keeping.{kept_shown}
use Rattle.requests.proofs.Cutting.{row_there}
use Rattle.requests.proofs.Adopting.{adopt_made}
use Rattle.requests.proofs.Finding.{found_among, found-within, found-ahead, never-missing}
use Rattle.requests.proofs.adopt_in.Goals as goal

pub find_row-requires : goal.find_row-requires
find_row-requires c = (kept_shown c.requires.0, c.requires.1.most)

pub row_at-r-requires : goal.row_at-r-requires
row_at-r-requires c = (kept_shown c.requires.0, found-within (found_among c.args.c.connection c.requires.1 (Some c.in-Some.i) c.in-Some.ensures))

pub set-requires : goal.set-requires
set-requires c = (kept_shown c.requires.0, found-within (found_among c.args.c.connection c.requires.1 (Some c.in-Some.i) c.in-Some.ensures))

pub returns-in-Some : goal.returns-in-Some
returns-in-Some c = λ st s w p.
    let k = key_num c.args.k in
    let n = c.args.c.connection in
    let small = hash_below c.args.k.hash (key-four c.args.k c.well_formed.1.0) in
    let f = among n (at k st.table).candidates p in
    let i = found-ahead st s k small refl w n f (found_among n c.requires.1 (Some c.in-Some.i) c.in-Some.ensures) in
    let q = c.row_at-r.ensures (flat_of st) c.row_at-r.result w ∙
    row_there k n 0 st.table s.bounded.ordered f c.row_at-r.result i in
    adopt_made st s k (candidate_of c.args.c)
    c.args.same f i
    (c.adopted_row.ensures (at k st.table) f.one q) (c.set.ensures (flat_of st) w)

pub returns-in_default : goal.returns-in_default
returns-in_default c = λ st s w p.
    let k = key_num c.args.k in
    let n = c.args.c.connection in
    let small = hash_below c.args.k.hash (key-four c.args.k c.well_formed.1.0) in
    let f = among n (at k st.table).candidates p in
    absurd (never-missing st s k small refl w n f (found_among n c.requires.1 None c.in_default.ensures))
