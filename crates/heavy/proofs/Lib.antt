pub mod Held
pub mod Frequent
pub mod Seeking
pub mod Streams
pub mod ListedStreams
