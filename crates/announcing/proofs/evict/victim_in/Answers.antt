use mathlib.Core.Path.{refl}
use Rattle.ident.specs.Number.{txid, wtxid}
use Rattle.ident.specs.Words.{hash_num}
use Rattle.store.specs.Flat.{flat_of}
use Rattle.requests.proofs.Keeping.{from_at, to_at}
use Rattle.announcing.proofs.Victims.{found_at_hash}
use Rattle.announcing.proofs.evict.victim_in.Goals as goal

pub returns : goal.returns
returns c = λ st s w.
    let h = hash_num c.args.h in
    let l = c.requires.1.small in
    let x = c.requires.1.by_txid in
    let y = c.requires.1.by_wtxid in
    found_at_hash h l st.table s.bounded.ordered s.bounded.lawful refl
    (from_at st s (txid h) l refl (x.from_is st s w)) (to_at st s (txid h) l refl (x.to_is st s w)) (c.greatest_in-victim.ensures (flat_of st) w)
    (from_at st s (wtxid h) l refl (y.from_is st s w)) (to_at st s (wtxid h) l refl (y.to_is st s w)) (c.greatest_in.ensures (flat_of st) w)
