pub mod Chained
pub mod Counts
pub mod Degrees
pub mod Groups
pub mod Kinds
pub mod LinkRows
pub mod NodeChains
