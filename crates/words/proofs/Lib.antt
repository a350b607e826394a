pub mod Splice
pub mod Records
pub mod Digits
pub mod Words
pub mod Moves
pub mod Parts
pub mod Zeros
