pub mod LockId
pub mod LockBytes
pub mod LockSet
pub mod LockEntry
pub mod LockList
pub mod ModeLocks
