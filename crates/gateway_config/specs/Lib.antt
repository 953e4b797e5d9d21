pub mod Statuses
pub mod Outside
pub mod Lines
pub mod Configs
pub mod ConfigRead
pub mod Numbers
