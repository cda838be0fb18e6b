pub mod Values
pub mod Payloads
pub mod Fields
pub mod FilterArrays
pub mod TokenDocuments
