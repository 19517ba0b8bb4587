-- numbers, lists, counts
pub mod Packing
-- the invariant, and each step that keeps it
pub mod Packs
pub mod ForwardSafe
pub mod Good
-- the sweep
pub mod SweepReferences
pub mod SweepPage
pub mod SweepQueue
-- two collections in step
pub mod Alike
pub mod AlikeReferences
pub mod AlikePage
pub mod AlikeRun
-- from the tests of collect to the first state, and from the last one to what is lent after
pub mod FirstState
pub mod Run
pub mod After
pub mod Pairing
pub mod Taken
pub mod Twice
-- what is proved
pub mod Collections
