pub mod LengthLemmas
pub mod OneReading
pub mod SpanLemmas
mod HasReading
mod StandardFacts
