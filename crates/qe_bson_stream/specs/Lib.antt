pub mod Runs
pub mod Stream
