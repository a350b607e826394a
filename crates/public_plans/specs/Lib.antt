pub mod Entries
pub mod Ownership
