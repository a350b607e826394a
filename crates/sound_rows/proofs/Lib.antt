pub mod Decide
pub mod Ranges
pub mod Quads
pub mod Rows
pub mod Groups
pub mod ConnMarks
pub mod Halves
pub mod Fitting
