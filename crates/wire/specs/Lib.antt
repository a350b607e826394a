pub mod Payload
pub mod Calls
pub mod Steps
