pub mod Noted
pub mod Events
pub mod Roots
