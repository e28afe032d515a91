pub mod WordLemmas
pub mod LoopLemmas
pub mod BitLemmas
pub mod SumLemmas
pub mod PartLemmas
pub mod ShiftLemmas
pub mod ProductLemmas
pub mod QuotientLemmas
