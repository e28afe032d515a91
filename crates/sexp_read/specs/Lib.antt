pub mod Token
pub mod Lexical
pub mod Tree
pub mod Forest
pub mod Fault
pub mod Progress
pub mod Words
