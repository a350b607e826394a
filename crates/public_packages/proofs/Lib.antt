pub mod Instances
pub mod Departed
pub mod Solicited
