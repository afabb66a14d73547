-- Definitions that follow the code's steps. No public contract cites them.
pub mod Applying
pub mod Backing
pub mod Buffer
pub mod CommandLine
pub mod Failure
pub mod Gathering
pub mod Input
pub mod Performing
