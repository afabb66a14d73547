pub mod Compaction
pub mod Joining
pub mod Application
pub mod Slots
