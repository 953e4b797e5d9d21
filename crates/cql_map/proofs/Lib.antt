pub mod NameLemmas
pub mod TermLemmas
pub mod FaultLemmas
pub mod SentenceLemmas
pub mod KeepsMeaning
mod MappedOrFaulty
pub mod LongLemmas
mod WorkedQueries
