pub mod Codes
pub mod ClauseLists
pub mod Trail
pub mod Values
pub mod Scores
pub mod Analysis
pub mod Log
pub mod Answer
