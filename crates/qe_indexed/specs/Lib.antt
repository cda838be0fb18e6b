pub mod Block
pub mod Parts
pub mod Spelling
pub mod Faults
pub mod Reading
pub mod Laws
