use Prim.Native.Nat.{ℕ}
use mathlib.Core.Path.{subst}
use Rattle.ident.specs.Words.{key_num}
use Rattle.machine.specs.Table.{at}
use Rattle.store.specs.Flat.{flat_of, row_of}
use Rattle.requests.specs.Changes.{Spans}
use Rattle.requests.proofs.Keeping.{kept_shown, from_at, to_at}
use Rattle.requests.proofs.Pushing.{its-mark}
use Rattle.package_stages.proofs.Owners.{nobody, owner-is}
use Rattle.package_stages.proofs.request_at.Goals as goal

pub owner_in-owner-requires : goal.owner_in-owner-requires
owner_in-owner-requires c = (kept_shown c.requires, c.window_of-rows.ensures.most)

pub mark_in-mark-requires : goal.mark_in-mark-requires
mark_in-mark-requires c = (kept_shown c.requires, c.window_of-rows.ensures.most)

pub returns : goal.returns
returns c =
    let k = key_num c.args.k in
    let key = c.from-key.ensures in
    let win = c.window_of-rows.ensures in
    record {
      spans = subst (λ (x : ℕ). Spans c.args.s.now x c.window_of-rows.result.from
          c.window_of-rows.result.to) key.number win;
      is = λ st s w.
          let d = row_of (at k st.table) nobody in
          let from = from_at st s k key.small key.number (win.from_is st s w) in
          let to = to_at st s k key.small key.number (win.to_is st s w) in
          record {
            owner = owner-is st s k from to w _ c.owner_in-owner.ensures;
            stage = c.stage_at-stage.ensures st s w;
            mark = its-mark st s k d from to (c.mark_in-mark.ensures (flat_of st) d w);
          };
    }
