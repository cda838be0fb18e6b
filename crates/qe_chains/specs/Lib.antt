pub mod Linked
pub mod Nodes
pub mod Pairs
pub mod Sound
