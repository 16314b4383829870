pub mod Stands
pub mod Versions
pub mod Zeros
