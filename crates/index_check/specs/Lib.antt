pub mod Buckets
pub mod Definitions
pub mod Entries
pub mod HeadRecords
pub mod Indexing
pub mod Nodes
pub mod Values
