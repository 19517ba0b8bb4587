pub mod Refusals
pub mod Accepted
pub mod Start
pub mod Store
pub mod Place
pub mod Allocate
