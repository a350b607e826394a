pub mod Printing
pub mod KeyLists
pub mod Behind
pub mod EntryLists
pub mod OwnerLists
pub mod Fitting
pub mod Lines
