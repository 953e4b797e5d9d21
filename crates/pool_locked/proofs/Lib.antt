pub mod FullLemmas
