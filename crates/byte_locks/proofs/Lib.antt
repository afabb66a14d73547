pub mod Arrays
pub mod Bytes
pub mod Counts
pub mod Exclusion
pub mod Grants
pub mod Held
pub mod Locks
pub mod Refusals
pub mod Releases
mod Tied
