pub mod Refusal
pub mod Layouts
pub mod Leaves
pub mod Documents
pub mod Blobs
pub mod Writing
pub mod Laws
