pub mod Freeing
pub mod Running
pub mod Sweeping
