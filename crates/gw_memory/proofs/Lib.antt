pub mod RecordsLemmas
pub mod AnswersLemmas
