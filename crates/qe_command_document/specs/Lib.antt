pub use Rattle.qe_command_parts.specs.Values
pub use Rattle.qe_command_parts.specs.Payloads
pub use Rattle.qe_command_parts.specs.FilterArrays
pub mod Rising
pub mod CellDocuments
pub mod CommandDocument
pub mod CommandLaws
