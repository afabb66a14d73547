pub mod Joined
pub mod Left
pub mod Filled
pub mod Moved
pub mod Added
pub mod Applied
pub mod Made
