pub mod Shared
pub mod SharedParts
pub mod Index
