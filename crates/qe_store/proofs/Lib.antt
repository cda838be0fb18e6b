pub mod ListLemmas
pub mod HoldLemmas
pub mod PlaceLemmas
pub mod IdLemmas
pub mod MatchLemmas
