pub mod Opening
pub mod Summing
pub mod Counting
pub mod Instances
