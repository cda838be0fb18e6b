pub mod Under
pub mod Numbers
pub mod Tags
pub mod Listed
pub mod Clashes
pub mod Laws
