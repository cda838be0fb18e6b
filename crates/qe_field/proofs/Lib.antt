mod DomainLemmas
pub mod GaveLemmas
pub mod SchemaLemmas
mod ShapeLemmas
