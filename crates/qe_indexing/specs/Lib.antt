pub mod Plans
pub mod Items
pub mod Cells
pub mod Searches
pub mod Merge
