pub mod Parts
pub mod Turned
pub mod Ordered
