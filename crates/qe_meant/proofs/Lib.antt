pub mod HeldLemmas
pub mod SizeLemmas
pub mod MeantLemmas
