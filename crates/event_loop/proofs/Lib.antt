pub mod SeatedLemmas
pub mod PlaceLemmas
pub mod ServesLemmas
pub mod FrontLemmas
