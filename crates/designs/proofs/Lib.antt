pub mod Marks
pub mod Documents
pub mod Sizes
