pub mod History
pub mod Rule
pub mod Moves
pub mod Calls
pub mod Seats
