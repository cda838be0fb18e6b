pub mod CarriedLemmas
pub mod EntryLemmas
pub mod LawLemmas
pub mod WriteLemmas
pub mod ExtraLemmas
pub mod FormLemmas
pub mod NamedLemmas
