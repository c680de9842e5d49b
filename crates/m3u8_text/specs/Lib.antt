pub mod Answers
pub mod Seen
pub mod Progress
pub mod Readers
