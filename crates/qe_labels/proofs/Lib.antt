pub mod AmongLemmas
pub mod OrderLemmas
pub mod NumberLemmas
pub mod ListedLemmas
pub mod ClashLemmas
