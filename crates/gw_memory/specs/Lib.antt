pub mod Planned
pub mod Named
pub mod Moments
pub mod Accepts
pub mod FakeSessions
pub mod FakeCounts
