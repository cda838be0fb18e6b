pub mod MemberLemmas
pub mod DrawLemmas
pub mod SendingLemmas
pub mod DecodeLemmas
pub mod HeldLemmas
pub mod FieldLemmas
pub mod EdgeLemmas
pub mod RangeLemmas
