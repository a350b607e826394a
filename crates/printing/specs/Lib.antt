pub mod Replies
pub mod Given
pub mod Kept
pub mod Answers
