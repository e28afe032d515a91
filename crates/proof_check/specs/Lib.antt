pub mod Marks
pub mod LitSet
pub mod Check
