-- `tearing::packaged::find` meets its contract.
use Prim.Native.Nat.{◌%◌}
use mathlib.Core.Path.{sym, ◌∙◌}
use borrow.Author.Tests.{eqb-true, eqb-false}
use Rattle.regions.proofs.Bits.{told_txid}
use Rattle.store.specs.Flat.{places_of}
use Rattle.store.proofs.ToFlat.{flat_sound}
use Rattle.store.proofs.Window.{places-sorted}
use Rattle.tearing.proofs.PackageSpots.{plain_row, wtxid-row}
use Rattle.tearing.proofs.packaged.find.Goals as goal

pub returns-then-eq : goal.returns-then-eq
returns-then-eq c =
    let r = c.args.r in
    let e = eqb-true (r.bits % 2) 0 (sym (told_txid r.bits c.kind.ensures c.eq.ensures) ∙ c.if-eq.true) in
    λ st xs ls s h small known. record { packaged = plain_row r e st xs ls s h small; stands = known }

pub returns : goal.returns
returns c =
    let r = c.args.r in
    let n = eqb-false (r.bits % 2) 0 (sym (told_txid r.bits c.kind.ensures c.eq.ensures) ∙ c.if-eq.false) in
    λ st xs ls s h small known.
    let k = c.come_to-reached.ensures _ h known (places-sorted 0 (places_of st.table) (flat_sound st s).places-ascend) in
    record { packaged = wtxid-row r n c.is_package.ensures st xs ls s h k small; stands = k.stands }
