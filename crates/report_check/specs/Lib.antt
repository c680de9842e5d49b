pub mod Bounds
pub mod Walks
pub mod Shown
