pub mod Form
pub mod Parts
pub mod Added
pub mod Walk
pub mod File
pub mod Results
pub mod Outcome
pub mod Accesses
