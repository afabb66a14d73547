pub mod Looking
pub mod Lines
