pub mod Silent
pub mod Lapses
pub mod Pending
