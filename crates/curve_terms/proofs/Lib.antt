pub mod Counted
pub mod Degrees
pub mod Roots
