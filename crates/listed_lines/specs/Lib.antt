pub mod Given
pub mod Starts
