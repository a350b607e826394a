pub mod Waiting
pub mod Displacing
