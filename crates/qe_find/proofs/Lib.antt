pub mod FitLemmas
pub mod FormLemmas
pub mod LawLemmas
pub mod NamedLemmas
pub mod WriteLemmas
