mod MarkWorks
mod CourseWorks
mod OneCourse
mod SetWorks
pub mod BegunLemmas
mod UnitWorks
mod RestWorks
mod TurnWorks
mod StepWorks
mod ThroughWorks
mod GrowthLemmas
mod SinceWorks
