pub mod Clients
pub mod Inside
pub mod Laws
