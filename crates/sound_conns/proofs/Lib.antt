pub mod Entries
pub mod Tally
pub mod Conns
