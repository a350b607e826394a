pub mod Laying
pub mod Texts
pub mod Splitting
pub mod Candidates
pub mod Walking
pub mod Lines
pub mod Places
pub mod Heads
