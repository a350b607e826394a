pub mod Sorted
pub mod Slots
pub mod Gathered
