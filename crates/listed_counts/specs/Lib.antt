pub mod Fronts
pub mod Passes
