pub mod Division
pub mod Roots
