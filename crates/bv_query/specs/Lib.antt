pub mod Inputs
pub mod Values
pub mod Refuted
pub mod Session
pub mod Decision
