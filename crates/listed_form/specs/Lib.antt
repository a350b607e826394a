pub mod Placed
pub mod Given
