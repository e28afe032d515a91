pub mod Units
pub mod Record
pub mod Outcome
