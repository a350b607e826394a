pub mod Places
pub mod Kinds
