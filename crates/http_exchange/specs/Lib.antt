pub mod Reading
pub mod Reply
pub mod Writing
pub mod Exchange
pub mod Called
pub mod Letters
