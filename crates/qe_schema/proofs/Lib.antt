mod CellLemmas
mod CommandLemmas
mod KeyLemmas
mod ResolvedLemmas
pub mod SlotLemmas
mod UnknownLemmas
