pub mod Words
pub mod Command
pub mod Refusal
pub mod Status
pub mod Program
pub mod Accepted
pub mod Work
