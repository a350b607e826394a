pub mod Tracked
pub mod Made
