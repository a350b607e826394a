pub mod Line
pub mod Forms
pub mod Lists
pub mod Given
