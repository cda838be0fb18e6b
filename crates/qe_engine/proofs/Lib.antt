pub mod ContentionLemmas
pub mod EngineLemmas
pub mod DumpLemmas
