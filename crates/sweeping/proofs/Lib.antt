pub mod Lent
pub mod Known
pub mod Tests
pub mod Rounds
pub mod Walking
