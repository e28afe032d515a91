pub mod CountLemmas
pub mod PaddedLemmas
pub mod RisingLemmas
pub mod TupleLemmas
pub mod PlaceLemmas
pub mod ClaimLemmas
pub mod NumberLemmas
