pub mod Insert
pub mod Laws
