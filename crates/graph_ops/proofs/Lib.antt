pub mod ChangeLeft
pub mod Meeting
pub mod NewIds
pub mod Parts
pub mod Spreading
