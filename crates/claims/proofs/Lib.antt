pub mod Known
pub mod Noting
pub mod Gathering
pub mod LastOnes
pub mod Naming
pub mod Listing
