pub mod TaskLemmas
pub mod PollLemmas
