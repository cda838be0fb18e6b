pub mod NumberLemmas
pub mod TaskLemmas
