pub mod KnownLemmas
pub mod ViewLemmas
pub mod StandLemmas
pub mod CachedLemmas
pub mod PresentLemmas
