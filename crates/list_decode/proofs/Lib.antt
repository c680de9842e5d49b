pub mod Messages
pub mod Kept
pub mod Bounds
pub mod Completeness
pub mod Refusals
