pub mod Admitted
pub mod AnyDisk
mod AskedFor
mod Events
mod Delivered
mod Deliveries
pub mod Failing
mod Follows
pub mod Histories
pub mod Keeping
pub mod LineLaws
pub mod Lossless
pub mod Opened
mod Recorded
pub mod Runs
mod SampleStores
mod Samples
mod SentRecords
mod SentTurns
pub mod SharedSteps
mod Stats
mod Stretches
mod TakenSnapshots
pub mod Turns
