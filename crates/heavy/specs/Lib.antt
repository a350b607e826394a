pub mod Counters
pub mod Streams
