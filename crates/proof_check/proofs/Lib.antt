pub mod SetLemmas
pub mod StepLemmas
pub mod LogLemmas
pub mod NewClausesLemmas
