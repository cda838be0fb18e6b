pub mod Serving
pub mod Documents
