pub mod WordPairs
pub mod Told
