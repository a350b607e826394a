pub mod Numbers
pub mod InWords
