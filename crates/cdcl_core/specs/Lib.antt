pub mod ClauseStatus
pub mod Propagation
pub mod Search
