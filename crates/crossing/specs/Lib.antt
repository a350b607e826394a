pub mod Status
pub mod Arguments
pub mod Counts
pub mod Payloads
pub mod Handed
