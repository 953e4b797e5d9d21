pub mod CountLemmas
pub mod PoolLemmas
pub mod LegLemmas
pub mod PackageLemmas
pub mod ConnLemmas
pub mod ThroughLemmas
pub mod WayLemmas
