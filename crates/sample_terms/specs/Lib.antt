pub mod Numbers
pub mod Inputs
pub mod Copies
pub mod Summary
