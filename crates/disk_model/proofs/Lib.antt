pub mod Contents
mod Draws
mod Files
mod Fills
mod Images
mod Lays
mod Logs
mod Moments
mod PendingMarks
mod Pokes
mod ReadFiles
pub mod Spans
pub mod Times
