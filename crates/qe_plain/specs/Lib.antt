pub mod Collection
pub mod Laws
