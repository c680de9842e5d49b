pub mod Commas
pub mod Rolls
