pub mod Edges
pub mod Nodes
pub mod Outlines
pub mod PatternOperations
pub mod Stopping
pub mod Taken
pub mod Words
