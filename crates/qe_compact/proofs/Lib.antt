pub mod DraftLemmas
pub mod ListLemmas
pub mod RowLemmas
pub mod RunLemmas
pub mod SearchLemmas
pub mod StepLemmas
pub mod TurnLemmas
