use Rattle.requests.proofs.Keeping.{kept_shown, rows_in_order}
use Rattle.store.specs.Flat.{flat_of}
use Rattle.requests.proofs.window_of.Goals as goal

pub seek_row-from-requires : goal.seek_row-from-requires
seek_row-from-requires c = kept_shown c.requires

pub end_of-to-requires : goal.end_of-to-requires
end_of-to-requires c = (kept_shown c.requires, c.seek_row-from.ensures.most)

pub invariant_of-result : goal.invariant_of-result
invariant_of-result c = record { order = c.end_of-to.ensures.least }

pub returns : goal.returns
returns c = record {
  order = c.end_of-to.ensures.least;
  most = c.end_of-to.ensures.most;
  from_is = λ st s w. c.seek_row-from.ensures.bound (flat_of st) w (rows_in_order st s);
  to_is = λ st s w. c.end_of-to.ensures.bound (flat_of st) w (rows_in_order st s) (c.seek_row-from.ensures.bound (flat_of st) w (rows_in_order st s));
}
