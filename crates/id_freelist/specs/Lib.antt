pub mod FreeLists
pub mod Giving
pub mod ListDamage
pub mod TakeFault
pub mod Taking
