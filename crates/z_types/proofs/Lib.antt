pub mod ChainLemmas
mod ListAllLemmas
pub mod LoginLemmas
