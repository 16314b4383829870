pub mod ChangeLeft
pub mod Distinct
pub mod MutateFault
pub mod Mutating
pub mod NewIds
