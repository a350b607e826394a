pub mod Fields
pub mod OneEntry
pub mod Below
pub mod Stored
pub mod Going
pub mod Readings
pub mod Listed
