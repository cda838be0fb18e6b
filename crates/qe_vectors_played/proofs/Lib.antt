pub mod PlayedLemmas
