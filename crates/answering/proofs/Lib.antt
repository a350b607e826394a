pub mod Opening
pub mod Unopened
