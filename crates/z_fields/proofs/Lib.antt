pub mod AnswerLemmas
pub mod IntegerLemmas
pub mod IndexLemmas
pub mod FirstLemmas
pub mod TakeLemmas
pub mod TreeLemmas
