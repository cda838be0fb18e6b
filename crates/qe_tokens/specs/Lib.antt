pub mod Labels
pub mod Tokens
