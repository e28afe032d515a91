pub mod ClaimLemmas
