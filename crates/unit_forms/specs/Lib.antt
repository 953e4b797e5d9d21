pub mod Fields
pub mod Query
pub mod Records
pub mod Replies
pub mod Requests
pub mod Tags
pub mod Reading
pub mod Logins
