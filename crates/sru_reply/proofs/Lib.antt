pub mod EscapeLemmas
mod PutLemmas
