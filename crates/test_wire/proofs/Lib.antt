pub mod SteadyLemmas
pub mod WireLemmas
