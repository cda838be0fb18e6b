pub mod Documents
pub mod Faults
pub mod OneLine
pub mod Phrases
pub mod Refusals
pub mod Replies
pub mod Unprintable
