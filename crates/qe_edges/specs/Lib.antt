pub mod Rules
pub mod Prefixes
pub mod Walk
pub mod Texts
