mod WorkLemmas
mod SetLemmas
pub mod StateLemmas
mod FeedLemmas
mod DriveLemmas
mod DrivenLemmas
pub mod EndLemmas
mod AheadLemmas
mod UnitLemmas
mod TurnLemmas
mod TotalLemmas
mod AnsweringLemmas
mod BegunLemmas
mod HeadLemmas
mod EndedLemmas
mod GetLemmas
mod HeadKeeps
mod StepLemmas
mod TurnedLemmas
