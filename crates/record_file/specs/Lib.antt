pub mod MetaFile
pub mod Records
pub mod Redone
pub mod Runs
pub mod Unique
