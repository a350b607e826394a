pub mod Counts
pub mod Records
pub mod Filling
pub mod Answers
pub mod Payloads
pub mod Trips
