pub mod Alike
pub mod IndexRows
pub mod LineLaws
pub mod Making
pub mod MutationRows
pub mod PropertyLaws
pub mod RefusalWords
pub mod Unprefixed
