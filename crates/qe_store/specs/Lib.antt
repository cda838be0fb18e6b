pub mod Cells
pub mod IdHash
pub mod Kept
pub mod Parts
