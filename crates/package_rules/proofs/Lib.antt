pub mod AllOrFirst
pub mod Taken
pub mod Rooms
pub mod AskedLemmas
pub mod Ranks
pub mod RunLemmas
pub mod MetLemmas
mod Unmarked
mod Told
mod Agreed
pub mod Found
mod ItemSaid
mod HitsSaid
pub mod RankGood
mod RecordsSaid
pub mod FinishedIs
pub mod FinishedFit
pub mod MarkSaid
pub mod LegsAsked
pub mod Allowed
