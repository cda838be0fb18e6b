pub mod Drawn
pub mod Sendable
