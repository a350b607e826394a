pub mod Number
pub mod Words
pub mod Compare
