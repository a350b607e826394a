pub mod Scanned
pub mod Keyed
pub mod Waiting
