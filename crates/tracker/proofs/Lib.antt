pub mod Demands
pub mod Typed
pub mod Saving
pub mod Replies
