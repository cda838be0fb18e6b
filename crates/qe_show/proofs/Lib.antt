pub mod CarriedLemmas
pub mod LineLemmas
pub mod RefusedLemmas
