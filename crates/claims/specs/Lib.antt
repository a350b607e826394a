pub mod Changes
pub mod Awaited
