pub mod Points
pub mod Refusals
pub mod Answers
pub mod Curves
