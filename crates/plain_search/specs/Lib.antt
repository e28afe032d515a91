pub mod Inputs
pub mod Extent
pub mod Trials
pub mod Patterns
pub mod Agreement
pub mod Sieve
pub mod Rules
