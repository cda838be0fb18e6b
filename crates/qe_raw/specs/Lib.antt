pub mod Callers
pub mod Faults
pub mod Lines
pub mod Names
pub mod Objects
pub mod Raw
pub mod Values
pub mod Verbs
