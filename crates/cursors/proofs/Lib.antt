pub mod HeaderWords
pub mod InState
