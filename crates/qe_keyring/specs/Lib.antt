pub mod Drawing
pub mod Keyrings
