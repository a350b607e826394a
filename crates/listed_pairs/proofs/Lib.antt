pub mod Facing
pub mod Passing
pub mod Seeking
pub mod Skipping
pub mod Pairing
pub mod Comparing
pub mod Verdict
