-- numbers, lists, counts
pub mod Sums
pub mod Packing
pub mod Queue
pub mod KeptPages
-- the invariant, and each step that keeps it
pub mod World
pub mod Places
pub mod Put
pub mod Take
pub mod Keep
pub mod Forward
pub mod Upward
pub mod Stacked
pub mod Causes
pub mod Store
pub mod Tile
-- the sweep, and the fillers
pub mod Cursor
pub mod Fillers
pub mod FillPage
pub mod FillPages
-- two collections in step
pub mod NoneKept
-- from the tests of collect to the first state, and from the last one to what is lent after
pub mod Hints
pub mod SoundHeap
pub mod Plainly
pub mod Freed
pub mod Covers
-- what is proved of two collections in a row
pub mod Collections
