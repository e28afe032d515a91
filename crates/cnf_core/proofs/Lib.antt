pub mod Sets
pub mod Sound
pub mod Same
pub mod Chains
pub mod Over
pub mod NewClauseLemmas
pub mod NewClausesBound
