pub mod FirstLemmas
pub mod ContentionLemmas
pub mod TurnLemmas
pub mod CauseLemmas
