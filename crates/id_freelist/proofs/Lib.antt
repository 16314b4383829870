pub mod FreeListLaws
pub mod Leaving
pub mod ListLaws
pub mod ListSteps
pub mod Making
pub mod Splits
pub mod TakeBreaches
pub mod TakeDamages
