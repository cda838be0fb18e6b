pub mod WordLemmas
pub mod ClientLemmas
