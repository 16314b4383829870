pub mod Files
pub mod MetaRecords
pub mod Records
pub mod Redone
pub mod Runs
pub mod Written
