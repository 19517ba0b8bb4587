pub mod Places
pub mod Code
