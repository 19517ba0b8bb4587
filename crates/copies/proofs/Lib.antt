pub mod Copying
pub mod Cursor
pub mod Rooting
