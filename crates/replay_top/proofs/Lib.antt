pub mod LentLemmas
pub mod RunLemmas
pub mod ReportLemmas
mod PaidLemmas
