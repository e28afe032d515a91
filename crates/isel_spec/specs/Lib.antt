pub mod File
pub mod Spec
pub mod Memory
