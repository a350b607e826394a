pub mod Parting
pub mod Arranged
pub mod Witnessed
pub mod Ordering
