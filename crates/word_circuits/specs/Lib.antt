pub mod Word
pub mod Digit
