pub mod Bits
pub mod Clauses
pub mod Memory
pub mod Words
pub mod Operations
pub mod Parts
pub mod Blast
