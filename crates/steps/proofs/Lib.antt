-- What the proofs of several functions use.
mod Stepping
-- Of every session and every step, and the definitions tried.
pub mod Examples
pub mod Unchanged
pub mod Ready
pub mod Collects
pub mod Soundness
pub mod Default
