pub use Rattle.qe_command_parts.proofs.ValueLemmas
pub mod SlotLemmas
pub mod DocumentLemmas
pub mod SchemaLemmas
