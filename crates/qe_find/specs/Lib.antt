pub mod Equal
pub mod Range
pub mod Laws
