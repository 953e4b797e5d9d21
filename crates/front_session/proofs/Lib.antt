pub mod CheckLemmas
pub mod PresentLemmas
pub mod SearchLemmas
pub mod WaitLemmas
pub mod SettleLemmas
pub mod CutLemmas
