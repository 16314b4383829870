pub mod LinkPlaces
pub mod RelRecords
pub mod Rows
