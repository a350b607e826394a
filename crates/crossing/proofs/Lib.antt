pub mod Statuses
pub mod Typed
pub mod Counts
pub mod Handing
