pub mod FoldLemmas
pub mod ReachedLemmas
