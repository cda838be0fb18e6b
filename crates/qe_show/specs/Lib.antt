pub mod Blob
pub mod Kinds
pub mod Lines
pub mod Parts
pub mod Payloads
