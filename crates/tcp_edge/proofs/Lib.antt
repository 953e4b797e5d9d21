pub mod WireLemmas
