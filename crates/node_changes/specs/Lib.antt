pub mod Entries
pub mod Indexing
pub mod NodeAdding
pub mod NodeDeleting
pub mod PropertySetting
