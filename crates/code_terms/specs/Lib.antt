pub mod Symbols
pub mod Words
pub mod WordText
pub mod WordFaults
