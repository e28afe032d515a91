pub mod BookLemmas
pub mod EntryLemmas
pub mod FirstEntries
mod FinishLemmas
mod FoundLemmas
pub mod PromiseLemmas
mod RenamedThings
