pub mod Items
pub mod Nonces
