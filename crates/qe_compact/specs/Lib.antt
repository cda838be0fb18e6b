pub mod Parts
pub mod Drafts
pub mod Turns
pub mod Answers
