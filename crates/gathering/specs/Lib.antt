pub mod Waits
pub mod Merges
pub mod Coming
pub mod Aside
pub mod Deferring
pub mod Counted
