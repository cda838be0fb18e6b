pub mod DraftLemmas
pub mod FloatLemmas
pub mod GeneratorLemmas
