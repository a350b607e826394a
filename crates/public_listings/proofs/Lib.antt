pub mod Instances
pub mod Deciding
pub mod Judging
pub mod Restored
