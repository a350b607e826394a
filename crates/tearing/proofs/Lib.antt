pub mod Tearing
pub mod Undoing
pub mod TornTables
pub mod PackageSpots
pub mod Ebbing
pub mod TearingRows
pub mod TearingPlaces
