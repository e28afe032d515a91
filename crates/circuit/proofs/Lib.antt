pub mod RunLemmas
pub mod GrowthLemmas
pub mod ClauseLemmas
pub mod GateLemmas
pub mod FunctionLemmas
pub mod AssertLemmas
