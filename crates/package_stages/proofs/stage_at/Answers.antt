use mathlib.Core.Path.{refl, sym, ap, subst, ◌∙◌}
use native.Mathlib.Omega.{arith}
use Rattle.ident.specs.Number.{wtxid}
use Rattle.ident.specs.Words.{hash_num, key_num}
use Rattle.ident.proofs.Words.{key-four, hash_below}
use Rattle.places.specs.Places.{Place, blank}
use Rattle.machine.specs.Table.{at}
use Rattle.store.specs.Flat.{flat_of}
use Rattle.requests.proofs.Keeping.{kept_shown}
use Rattle.package_stages.proofs.Seeking.{head-stage, no-stage, txid-stage, stage-few, its-place, PlaceIn, place_sought}
use Rattle.package_stages.proofs.stage_at.Goals as goal

pub place_at-requires : goal.place_at-requires
place_at-requires c =
    let h = hash_num c.args.k.hash in
    let z = subst (PlaceIn c.args.s.now h) (sym c.ok.ensures.value ∙ c.in_ok-i-in-Wtxid.was) (place_sought c.args.s.now h c.seek.result c.seek.ensures) in
    (kept_shown c.requires, z.inside refl)

pub returns-in-Txid : goal.returns-in-Txid
returns-in-Txid c = λ st s w.
    let k = c.args.k in
    sym (txid-stage st s (key_num k) (hash_below k.hash (key-four k c.well_formed.1.0)) c.in-Txid.is)

pub returns-in_ok-i-in-Wtxid : goal.returns-in_ok-i-in-Wtxid
returns-in_ok-i-in-Wtxid c = λ st s w.
    let h = hash_num c.args.k.hash in
    let q = at (wtxid h) st.table in
    let z = subst (PlaceIn c.args.s.now h) (sym c.ok.ensures.value ∙ c.in_ok-i-in-Wtxid.was) (place_sought c.args.s.now h c.seek.result c.seek.ensures) in
    let p = z.is st s w in
    let there = its-place st s h z.small p.bound (sym p.held_is) (blank 0 0) in
    let e = head-stage _ (c.place_at.ensures (flat_of st) (blank 0 0) w) ∙ ap (λ (x : Place). x.stage) there in
    rw c.in-Wtxid.is (c.stage_in.ensures (omega (arith, e, stage-few q.info q.«package»)) ∙ e)

pub returns-in_err-i-in-Wtxid : goal.returns-in_err-i-in-Wtxid
returns-in_err-i-in-Wtxid c = λ st s w.
    let h = hash_num c.args.k.hash in
    let p = (subst (PlaceIn c.args.s.now h) (sym c.ok.ensures.value ∙ c.in_err-i-in-Wtxid.was) (place_sought c.args.s.now h c.seek.result c.seek.ensures)).1.is st s w in
    rw (c.from_residual.ensures, c.in-Wtxid.is) (sym (no-stage (at (wtxid h) st.table) (sym p.held_is)))
