pub mod Code
pub mod Queue
