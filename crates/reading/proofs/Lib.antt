pub mod Taking
pub mod Filling
pub mod Bytes
pub mod Elements
pub mod Stored
pub mod Behind
