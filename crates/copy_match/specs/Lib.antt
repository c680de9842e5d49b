pub mod Readers
pub mod Matches
