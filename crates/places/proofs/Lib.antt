pub mod Segments
pub mod Places
pub mod Changes
pub mod Columns
pub mod Cleared
