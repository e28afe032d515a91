mod RuleLemmas
mod LibraryLemmas
