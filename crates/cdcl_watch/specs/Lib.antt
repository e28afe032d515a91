pub mod Lists
pub mod Watches
pub mod Visit
pub mod Attach
pub mod Order
pub mod Search
pub mod Answer
