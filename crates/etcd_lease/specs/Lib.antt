pub mod Asking
pub mod Turns
pub mod Rounds
pub mod Acquiring
