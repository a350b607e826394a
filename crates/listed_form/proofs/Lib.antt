pub mod Placing
pub mod Forms
pub mod Stepping
