pub mod Between
pub mod Quiet
pub mod Pages
pub mod Requests
pub mod Borne
