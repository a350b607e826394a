pub mod Idle
pub mod Torn
pub mod Places
