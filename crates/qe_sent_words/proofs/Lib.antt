pub mod LoopLemmas
