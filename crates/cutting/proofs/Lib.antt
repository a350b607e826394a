mod Spans
pub mod AtOnce
pub mod RowsLeft
pub mod Lessening
pub mod Testing
pub mod Made
