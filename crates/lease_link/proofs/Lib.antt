pub mod Rounds
pub mod Tables
pub mod GivenUp
pub mod Replies
