pub mod LearnLemmas
pub mod OpenedLemmas
pub mod TokenLemmas
pub mod JoinLemmas
pub mod StrayLemmas
