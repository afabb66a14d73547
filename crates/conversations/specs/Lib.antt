-- The definitions that contracts cite.
pub mod AsRecorded
pub mod Outcomes
pub mod Replaying
pub mod Standing
