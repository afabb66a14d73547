pub mod Giving
pub mod Stops
pub mod Replies
pub mod Talking
pub mod Dialing
pub mod Spending
pub mod Overs
pub mod Calls
