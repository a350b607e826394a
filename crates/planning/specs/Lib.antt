pub mod Expiring
pub mod Silent
pub mod Noting
pub mod Replying
