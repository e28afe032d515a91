pub mod Book
pub mod Answer
pub mod Promise
pub mod Steps
