pub mod RestLemmas
pub mod BetweenLemmas
pub mod PageLemmas
pub mod RequestLemmas
mod QuietFacts
pub mod DialLemmas
pub mod BorneLemmas
pub mod PlainLemmas
pub mod WireLemmas
