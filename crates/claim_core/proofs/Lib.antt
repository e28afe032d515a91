pub mod Totals
pub mod RunLemmas
pub mod SizeLemmas
