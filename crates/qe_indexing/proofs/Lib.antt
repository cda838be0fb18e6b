pub mod ItemLemmas
pub mod CellLemmas
pub mod SearchLemmas
pub mod PlanLemmas
pub mod MergeLemmas
