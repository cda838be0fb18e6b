pub mod AllLemmas
pub mod BytesLemmas
pub mod LengthLemmas
pub mod NameLemmas
pub mod PayloadLengths
pub mod PayloadSound
pub mod SoundLemmas
pub mod TokenLengths
