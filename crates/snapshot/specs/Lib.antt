pub mod Causes
pub mod Encoded
pub mod Installing
pub mod Output
pub mod Bytes
pub mod Pages
pub mod Parts
