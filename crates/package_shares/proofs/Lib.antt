pub mod UsesLemmas
pub mod OwnUses
pub mod OnceLemmas
pub mod WorkUses
pub mod CostLemmas
pub mod FullLemmas
pub mod MemoryLemmas
pub mod RoundLemmas
pub mod EndedLemmas
pub mod NeedLemmas
pub mod MayLemmas
pub mod AgainLemmas
pub mod PackageLemmas
pub mod RequestLemmas
mod RequestFacts
