pub mod Cells
pub mod Pairs
pub mod Resolve
pub mod Slots
