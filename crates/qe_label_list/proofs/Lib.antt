pub mod RepeatLemmas
pub mod KeyLemmas
pub mod HeldLemmas
pub mod MakingLemmas
pub mod FirstLemmas
pub mod LawLemmas
pub mod PairLemmas
pub mod FieldLemmas
