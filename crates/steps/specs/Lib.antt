pub mod Session
pub mod Memory
pub mod Told
pub mod Begun
