pub mod Miter
pub mod Trial
pub mod Answer
pub mod Finder
pub mod Listing
pub mod Search
