pub mod ValueLemmas
pub mod InputLemmas
pub mod WitnessLemmas
mod RefutedLemmas
mod SessionLemmas
