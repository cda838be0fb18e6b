pub mod DocumentLemmas
pub mod FormedLemmas
pub mod JsonLineLemmas
pub mod LineLemmas
pub mod OneLineLemmas
pub mod UnprintableLemmas
