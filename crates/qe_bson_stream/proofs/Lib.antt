pub mod RunLemmas
pub mod StreamLemmas
