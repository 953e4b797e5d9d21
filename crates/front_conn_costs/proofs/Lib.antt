pub mod GrowthLemmas
mod TurnLemmas
mod PackageLemmas
pub mod TotalLemmas
mod CauseLemmas
mod OverLemmas
mod ConnLemmas
mod KeptLemmas
mod PhaseLemmas
mod LedgerLemmas
mod PaidLemmas
pub mod FewLemmas
mod CostLemmas
