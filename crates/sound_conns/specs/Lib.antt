pub mod Conns
