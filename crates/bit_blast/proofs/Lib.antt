pub mod BitLemmas
pub mod BlastLemmas
mod SetLemmas
mod WalkLemmas
mod EntryLemmas
mod NodeFacts
mod PartLemmas
mod MemberLemmas
mod MoveLemmas
mod InputLemmas
mod TermWordLemmas
mod OperationLemmas
mod VisitLemmas
mod AssertLemmas
pub mod FormulaLemmas
