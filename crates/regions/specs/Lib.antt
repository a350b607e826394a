pub mod Regions
pub mod Order
pub mod Rows
pub mod Kinds
pub mod Staying
pub mod Keys
pub mod Packed
pub mod Numbered
