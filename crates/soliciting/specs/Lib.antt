pub mod Solicits
