pub mod Table
pub mod Learning
pub mod Asking
pub mod Own
pub mod Keeping
pub mod Rounds
pub mod Serving
pub mod Waiting
