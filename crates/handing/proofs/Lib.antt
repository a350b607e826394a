pub mod Copying
pub mod Announcing
pub mod Dropping
pub mod GivingBack
pub mod RowOwners
