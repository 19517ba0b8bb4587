-- What the proofs of several functions use.
mod Running
mod Written
-- The definitions tried.
pub mod Examples
