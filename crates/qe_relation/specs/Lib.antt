pub mod Shape
pub mod Stands
pub mod Items
pub mod Steps
pub mod Laws
