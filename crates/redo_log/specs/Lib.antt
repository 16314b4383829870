pub mod Appending
pub mod Entries
pub mod Reading
pub mod Redo
pub mod Resetting
