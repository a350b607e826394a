-- `tallying::settle_conns` meets its contract.
use mathlib.Core.Path.{sym}
use native.Mathlib.Omega.{arith}
use Rattle.store.specs.PartLaws.{conn_laws}
use Rattle.store.proofs.Frame.{sizes, part-lent, part_back, part-counted}
use borrow.Author.Rules.{rules}
use Rattle.tallying.proofs.settle_conns.Goals as goal

pub settle-m-requires : goal.settle-m-requires
settle-m-requires c = (
  search rules,
  record {
    capacity = c.requires.flat.head.limit;
    entries = c.requires.flat.conns;
    long = sym (c.conns-n.ensures.field c.requires.flat
        c.requires.shows);
    fits = omega (
      arith,
      c.conns-n.ensures.field c.requires.flat
          c.requires.shows,
      c.requires.sized.conns_few,
    );
    holds = part-lent conn_laws c.requires.shows c.conns_part-part.ensures;
  },
)

pub returns : goal.returns
returns c = λ f h.
    let z = sizes h in
    let n = c.conns-n.ensures.field f h in
    let a = c.settle-m.ensures.all f.head.limit f.conns (sym n) (omega (
      arith,
      z.conns,
      z.limit,
      c.requires.sized.conns_few,
      c.requires.sizes.conns,
      c.requires.sizes.limit,
    )) (part-lent conn_laws h c.conns_part-part.ensures) in
    part-counted conn_laws h (search rules) _ _ a.1 (part_back conn_laws h c.conns_part-part.ensures _ _ c.settle-m.auto.r a.0) c.put.ensures.word
