-- `public_listings::restore` meets its contract: one law of proofs/Restored for each verdict.
use Rattle.outcome.proofs.Exits.{hands-on}
use Rattle.public_listings.proofs.Restored.{not_listed}
use Rattle.public_listings.proofs.restore.Goals as goal

pub returns-in_err-listing : goal.returns-in_err-listing
returns-in_err-listing c = rw (hands-on _ c.from_residual.ensures.1) (not_listed _ _ _ c.in_err-listing.ensures.is)
