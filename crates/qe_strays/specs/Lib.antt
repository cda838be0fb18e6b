pub mod Strays
pub mod Met
