pub mod CollectionLemmas
mod PutLemmas
mod SameLemmas
