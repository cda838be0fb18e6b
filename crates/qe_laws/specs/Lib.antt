pub mod Journals
pub mod Searches
pub mod Entries
