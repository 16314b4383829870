pub mod Growth
pub mod Ranges
pub mod Passing
