pub mod Stands
pub mod Versions
