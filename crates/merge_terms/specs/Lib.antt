pub mod Merged
pub mod Bounds
