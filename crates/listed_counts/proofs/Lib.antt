pub mod FrontFields
pub mod Numbers
pub mod Lines
pub mod Tables
