pub mod Tables
pub mod Pivots
