pub mod Faults
pub mod Judgements
pub mod Lookup
pub mod Names
pub mod Reading
pub mod Schema
pub mod Shape
pub mod Values
