pub mod KeysBack
pub mod Given
pub mod Answer
pub mod Inventory
