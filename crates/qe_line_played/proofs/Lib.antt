pub mod SendLemmas
pub mod PlayLemmas
