pub mod CallerLemmas
pub mod FieldLemmas
pub mod JobLemmas
pub mod PrintedLemmas
pub mod ReadLemmas
