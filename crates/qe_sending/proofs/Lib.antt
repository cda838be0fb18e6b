pub mod LoopLemmas
pub mod EdgeLemmas
pub mod TermLemmas
pub mod CellLemmas
pub mod SendableLemmas
