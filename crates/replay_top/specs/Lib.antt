pub mod Lent
pub mod Outside
pub mod Paid
pub mod Reported
