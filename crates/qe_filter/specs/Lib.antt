pub mod Faults
pub mod Filters
pub mod Indexed
pub mod Typed
