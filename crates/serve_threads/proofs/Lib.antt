pub mod Dialled
pub mod Lists
mod MovedOver
pub mod Searched
pub mod Together
