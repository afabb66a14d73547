pub mod Draws
pub mod Nodes
pub mod Line
pub mod Drill
