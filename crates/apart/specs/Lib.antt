pub mod Bare
pub mod Apart
pub mod Delayed
pub mod Noting
pub mod Lapsing
