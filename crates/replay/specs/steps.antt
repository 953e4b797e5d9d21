-- For contracts alone, a file for each thing that they speak of (this project's own)
pub mod Clients
pub mod Playing
pub mod Closing
pub mod Laws
pub mod Costs
pub mod Quiet
pub mod Room
