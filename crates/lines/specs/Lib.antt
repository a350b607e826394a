pub mod Text
pub mod Values
pub mod Hexadecimal
