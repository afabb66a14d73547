pub mod DatabaseFile
pub mod Commit
pub mod CommitParts
pub mod Fault
pub mod WalCommit
pub mod Writing
pub mod WritingParts
