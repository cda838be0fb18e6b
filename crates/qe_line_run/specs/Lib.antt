pub mod Running
pub mod Playing
