pub mod Blocks
pub mod Crc
pub mod Sums
pub mod Table
pub mod Zeros
