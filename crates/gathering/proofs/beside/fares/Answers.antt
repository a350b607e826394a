-- `gathering::beside::fares` meets its contract.
use mathlib.Core.Path.{refl}
use native.Mathlib.Omega.{arith}
use Rattle.ident.specs.Words.{key_num}
use Rattle.requests.specs.Changes.{candidate_of}
use Rattle.requests.proofs.HashRows.{kind_spans}
use Rattle.gathering.proofs.Faring.{fares-full, fares-barred, fares-crowded, fares_in}
use Rattle.announcing.proofs.Lent.{key_low}
use Rattle.gathering.proofs.beside.fares.Goals as goal

pub returns-then-full : goal.returns-then-full
returns-then-full c =
    let k = c.args.k in
    let small = key_low k c.well_formed.1.1.0 in (
      record {
        spare = λ e. cc;
        fares = λ st s w es a. fares-full st s (key_num k) (candidate_of
            c.args.c) small a (c.full.ensures st s w) c.if-full.true c.if-c.false;
      },
      λ e. cc,
    )

pub returns-in_default : goal.returns-in_default
returns-in_default c =
    let k = c.args.k in
    let small = key_low k c.well_formed.1.1.0 in (
      record {
        spare = λ e. cc;
        fares = λ st s w es a. fares-barred st s (key_num k) (candidate_of
            c.args.c) small a (c.in_default.ensures st s w es a) refl;
      },
      λ e. cc,
    )

pub returns-then-crowded_in : goal.returns-then-crowded_in
returns-then-crowded_in c =
    let k = c.args.k in
    let small = key_low k c.well_formed.1.1.0 in (
      record {
        spare = λ e. cc;
        fares = λ st s w es a. fares-crowded st s (key_num k) (candidate_of c.args.c) small a
            (c.crowded_in.ensures st s w) c.if-crowded_in.true c.if-c-2.false;
      },
      λ e. cc,
    )

pub returns : goal.returns
returns c =
    let k = c.args.k in
    let small = key_low k c.well_formed.1.1.0 in (
      record {
        spare = λ e. omega (arith, c.if-new-ge-SPACE.false);
        fares = λ st s w es a. fares_in st s (key_num k) (candidate_of c.args.c) small a
            (c.full.ensures st s w) c.if-full.false (c.in-Some.ensures.0 st s w
            es a) refl (c.crowded_in.ensures st s w) c.if-crowded_in.false;
      },
      kind_spans (key_num k) c.in-Some.ensures.1 refl c.of_kind.ensures,
    )
