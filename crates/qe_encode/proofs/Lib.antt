pub mod FlatLemmas
pub mod RefusalLemmas
pub mod SizeLemmas
pub mod WriteLemmas
