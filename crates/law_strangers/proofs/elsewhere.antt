pub mod Nodes
pub mod Walks
