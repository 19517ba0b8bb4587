pub mod Run
pub mod Answer
pub mod Turn
pub mod Determined
