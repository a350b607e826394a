pub mod Entered
pub mod Taken
pub mod Instances
pub mod Sent
pub mod Held
pub mod Parting
pub mod Planned
pub mod Unsound
