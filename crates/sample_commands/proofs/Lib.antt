mod Registers
pub mod Summaries
pub mod Samples
