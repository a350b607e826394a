pub mod Headers
pub mod LineFields
pub mod Appending
pub mod TakingLines
pub mod Walking
pub mod Wholes
