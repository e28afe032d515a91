pub mod Told
pub mod FakeLemmas
