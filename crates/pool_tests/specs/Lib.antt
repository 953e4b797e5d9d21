pub mod Steady
