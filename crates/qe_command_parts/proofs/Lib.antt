pub mod ValueLemmas
pub mod SlotLemmas
