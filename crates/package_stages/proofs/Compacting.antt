-- What is left of lists that pass a test, by the laws of regions.
pub use Rattle.regions.proofs.Retaining.{filter-append, filter_one, filter_none}
