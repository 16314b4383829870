pub mod Finding
pub mod LoggedMetas
pub mod RecoverFault
pub mod Redoing
pub mod Syncing
