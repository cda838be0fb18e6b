pub mod Closing
pub mod Labels
