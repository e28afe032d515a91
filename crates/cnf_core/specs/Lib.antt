pub mod Clause
pub mod Resolution
pub mod Formula
