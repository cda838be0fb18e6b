pub mod Due
pub mod Ending
pub mod Laws
pub mod Status
pub mod Text
