pub mod Answers
pub mod Evicts
pub mod Enters
pub mod Falls
pub mod Drops
