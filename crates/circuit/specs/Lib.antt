pub mod Signal
pub mod Gate
pub mod Added
pub mod Pairing
