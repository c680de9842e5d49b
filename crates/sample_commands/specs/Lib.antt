pub mod Refusals
pub mod Samples
