mod Played
mod PlainLoads
pub mod OverTests
