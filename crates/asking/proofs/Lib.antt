pub mod Filled
pub mod Openings
pub mod Worded
pub mod Worked
