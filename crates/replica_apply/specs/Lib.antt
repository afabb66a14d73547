pub mod Heads
pub mod Asking
pub mod Frames
pub mod Following
pub mod Doubting
