pub mod Tables
pub mod Elements
pub mod Slices
