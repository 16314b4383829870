pub mod NodeRecords
pub mod Rows
