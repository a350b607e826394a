pub mod Effects
pub mod Batches
