pub mod PlayLemmas
