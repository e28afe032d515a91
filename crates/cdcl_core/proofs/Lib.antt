pub mod StatusLemmas
pub mod PropagationLemmas
pub mod ReadyLemmas
