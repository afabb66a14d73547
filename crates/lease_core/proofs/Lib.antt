pub mod OneReading
pub mod Shapes
pub mod Tables
pub mod Grants
pub mod Believing
