pub mod Sorting
pub mod Merging
pub mod Inserting
