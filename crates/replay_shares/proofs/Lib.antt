pub mod CountLemmas
pub mod ReportLemmas
pub mod FeedLemmas
pub mod EventLemmas
pub mod ScriptLemmas
mod OrderlyFacts
pub mod SpentLemmas
pub mod MayLemmas
pub mod TurnLemmas
pub mod WorkLemmas
pub mod FrontLemmas
pub mod UnitSteps
pub mod UnitRuns
pub mod NewLemmas
pub mod HeadWorks
pub mod GetSteps
pub mod GetRuns
