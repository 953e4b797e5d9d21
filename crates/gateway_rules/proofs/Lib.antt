pub mod OneReading
pub mod Composition
pub mod OneEnding
pub mod OneAnswer
pub mod AccessLemmas
mod AccessRuns
pub mod Runs
pub mod SomeAnswer
mod FairLegs
pub mod Joined
pub mod MarkLemmas
mod CutExamples
