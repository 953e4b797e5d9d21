pub mod DistinctLemmas
pub mod SeenLemmas
