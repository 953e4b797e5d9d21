pub mod Served
mod Dialled
