pub mod SharerFacts
pub mod TableUses
pub mod RoomUses
pub mod SearchUses
pub mod PoolUses
pub mod TakeUses
pub mod PutUses
mod PoolFacts
pub mod LoginRoom
pub mod TakenUses
pub mod NumberUses
mod NeededFacts
