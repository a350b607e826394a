pub mod Changes
pub mod Windows
