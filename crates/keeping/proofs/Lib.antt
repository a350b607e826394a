pub mod Keeping
pub mod Stepping
