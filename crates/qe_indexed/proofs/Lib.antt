pub mod BlockLemmas
pub mod ReadingLemmas
pub mod FaultLemmas
pub mod JoinLemmas
pub mod SpellingLemmas
pub mod LawLemmas
