-- `printing::keys::listing` meets its contract.
use Rattle.printing.proofs.Printing.{listing-refused, listing-said}
use Rattle.printing.proofs.Fitting.{listing-fits}
use Rattle.printing.proofs.keys.listing.Goals as goal

pub put_keys-requires : goal.put_keys-requires
put_keys-requires g c = let f = listing-fits c.in-Ok.is c.requires.1 in
    (c.requires.0, f.0, f.1)

pub returns-in-Err : goal.returns-in-Err
returns-in-Err g c = listing-refused _ _ c.in-Err.is c.from.ensures c.refusal.ensures

pub returns-in-Ok : goal.returns-in-Ok
returns-in-Ok g c = listing-said _ c.in-Ok.is c.put_keys.ensures
