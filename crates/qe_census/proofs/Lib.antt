pub mod EntryLemmas
pub mod EventLemmas
pub mod RootLemmas
pub mod LabelLemmas
