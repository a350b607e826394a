-- `choosing::choose_within` meets its contract.
use mathlib.Core.Path.{refl}
use mathlib.Core.List.{[]}
use Rattle.ident.specs.Number.{txid, wtxid}
use Rattle.machine.specs.Plan as machine
use Rattle.store.specs.Flat.{flat_of}
use Rattle.choosing.proofs.Keyed.{window-owned, least_free, of_both, choice-owned, choice-free}
use Rattle.choosing.proofs.Waiting.{window-wait, wait-owned, wait-free}
use Rattle.choosing.proofs.choose_within.Goals.{then-owned_in-via-then-owned_in, then-owned_in-via-else-owned_in+then-owned_in-2}
use Rattle.choosing.proofs.choose_within.Goals as goal

pub returns-then-owned_in : goal.returns-then-owned_in
returns-then-owned_in c = elim c.then-owned_in.branch [
  | then-owned_in-via-then-owned_in k ↦ record {
    is = λ h z st s w.
        let x = z.as_txid in
        choice-owned c.args.clock st s h x.small (txid h) refl (window-owned st s w (txid h) x.small refl x.spans (c.owned_in.ensures (flat_of st) w)) k.if-owned_in.true refl;
    found = λ f w. tt;
    wait = λ h z st s w.
        let x = z.as_txid in
        wait-owned c.args.clock st s h x.small (txid h) refl (window-owned st s w (txid h) x.small refl x.spans (c.owned_in.ensures (flat_of st) w)) k.if-owned_in.true refl;
  }
  | then-owned_in-via-else-owned_in+then-owned_in-2 k ↦ record {
    is = λ h z st s w.
        let y = z.as_wtxid in
        choice-owned c.args.clock st s h y.small (wtxid h) refl
        (window-owned st s w (wtxid h) y.small refl y.spans (k.owned_in-else-owned_in.ensures (flat_of st) w)) k.if-owned_in-2.true refl;
    found = λ f w. tt;
    wait = λ h z st s w.
        let y = z.as_wtxid in
        wait-owned c.args.clock st s h y.small (wtxid h) refl
        (window-owned st s w (wtxid h) y.small refl y.spans (k.owned_in-else-owned_in.ensures (flat_of st) w)) k.if-owned_in-2.true refl;
  }
]

pub returns : goal.returns
returns c =
    let clock = c.args.clock in
    let i = c.if-owned_in.false in
    let j = c.if-owned_in-2.false in
    record {
      is = λ h z st s w.
          let x = z.as_txid in
          let y = z.as_wtxid in
          let p = machine.able clock st.table [] in
          let a = c.owned_in.ensures (flat_of st) w in
          let b = c.owned_in-else-owned_in.ensures (flat_of st) w in
          let free-x = least_free st s w (txid h) x.small refl x.spans a p i (c.least_in-p.ensures.is st s w) in
          let free-y = least_free st s w (wtxid h) y.small refl y.spans b p j (c.least_in-q.ensures.is st s w) in
          choice-free clock st s h x.small (window-owned st s w (txid h) x.small refl x.spans a) (window-owned st s w (wtxid h) y.small refl y.spans b) i j
          (of_both clock st.table h c.either.ensures.is free-x free-y);
      found = λ f w. c.either.ensures.found f.rows (c.least_in-p.ensures.found f w)
          (c.least_in-q.ensures.found f w);
      wait = λ h z st s w.
          let x = z.as_txid in
          let y = z.as_wtxid in
          let a = c.owned_in.ensures (flat_of st) w in
          let b = c.owned_in-else-owned_in.ensures (flat_of st) w in
          wait-free clock st s h x.small (window-owned st s w (txid h) x.small refl x.spans a) (window-owned st s w (wtxid h) y.small refl y.spans b) i j
          c.earlier.ensures (window-wait clock st s w (txid h) x.small refl x.spans (c.wait_in-a.ensures (flat_of st) w))
          (window-wait clock st s w (wtxid h) y.small refl y.spans (c.wait_in-b.ensures (flat_of st) w));
    }
