pub mod Rows
pub mod Entries
pub mod Tables
pub mod Back
pub mod Stretches
pub mod Halves
pub mod Turns
pub mod Listed
