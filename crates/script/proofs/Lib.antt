pub mod LineLemmas
pub mod NumberLemmas
pub mod FlagLemmas
pub mod OrderLemmas
