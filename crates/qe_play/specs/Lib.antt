pub mod Runs
pub mod Due
