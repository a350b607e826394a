pub mod Selecting
pub mod Ordering
pub mod Phasing
pub mod Near
