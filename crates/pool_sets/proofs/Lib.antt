pub mod Examples
pub mod TableLemmas
pub mod OrderLemmas
pub mod KeptLemmas
pub mod RoomLemmas
pub mod PoolLawLemmas
pub mod SeatLemmas
