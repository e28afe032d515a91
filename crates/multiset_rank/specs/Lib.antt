pub mod Binomial
pub mod Multisets
pub mod Claims
pub mod Rising
pub mod Padded
