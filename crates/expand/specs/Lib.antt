pub mod Costs
pub mod Degrees
pub mod ExpandFault
pub mod Expanding
pub mod FirstLinks
pub mod Matching
pub mod Walking
