pub mod Read
pub mod Seeking
pub mod Owners
pub mod Placing
pub mod Filling
pub mod Compacting
pub mod Sounds
pub mod Steps
