-- For contracts alone (this project's own)
pub mod Shared
pub mod Laws
