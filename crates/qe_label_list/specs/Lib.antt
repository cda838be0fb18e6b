pub mod Order
pub mod Rows
pub mod Keys
pub mod Roots
pub mod Tokens
pub mod Kept
pub mod Laws
