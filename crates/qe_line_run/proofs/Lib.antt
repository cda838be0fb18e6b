pub mod FoldLemmas
pub mod ClientLemmas
pub mod LineLemmas
pub mod NextLemmas
