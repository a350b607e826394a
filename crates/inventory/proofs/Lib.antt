pub mod Plain
pub mod Sizes
pub mod Putting
pub mod Listing
pub mod Offering
