pub mod Bools
pub mod Numbers
pub mod Options
pub mod Lists
pub mod Lookups
pub mod Members
pub mod Orders
