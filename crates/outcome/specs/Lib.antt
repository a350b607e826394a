pub mod Refusals
pub mod Outcome
pub mod Reply
pub mod Tests
pub mod Lent
pub mod Steps
