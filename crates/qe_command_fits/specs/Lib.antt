pub mod OfSchema
pub mod Sizes
