pub mod FormLemmas
pub mod RangeLemmas
pub mod TextLemmas
