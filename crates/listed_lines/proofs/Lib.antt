pub mod Anywhere
pub mod Taking
pub mod Missing
pub mod Lists
pub mod Forms
pub mod Ends
pub mod Starts
