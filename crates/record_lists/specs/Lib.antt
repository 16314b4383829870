pub mod Deciding
pub mod Heads
pub mod Lines
pub mod Seen
pub mod Numbers
pub mod Unseen
