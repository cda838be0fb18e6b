pub mod BoundaryLemmas
pub mod ChangesLemmas
pub mod DigitLemmas
pub mod HashLemmas
pub mod LawLemmas
pub mod ListedLemmas
pub mod RisingLemmas
