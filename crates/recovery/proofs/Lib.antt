pub mod Causes
pub mod EntrySteps
pub mod LogSteps
pub mod Metas
pub mod Settled
pub mod StoreForms
pub mod Unmade
