pub mod Wraps
pub mod Batches
pub mod Swaps
pub mod Lapses
