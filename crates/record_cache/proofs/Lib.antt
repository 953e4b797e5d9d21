pub mod HashLemmas
pub mod EntryLemmas
pub mod DigestLemmas
pub mod RunLemmas
