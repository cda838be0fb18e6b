pub mod OnlyLemmas
pub mod RunLemmas
