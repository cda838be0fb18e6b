pub mod DueLemmas
pub mod VerdictLemmas
