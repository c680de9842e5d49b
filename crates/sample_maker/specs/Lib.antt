pub mod Answers
pub mod Copying
pub mod Heads
pub mod Holding
