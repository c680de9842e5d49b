pub mod YRoots
pub mod Branches
pub mod Entries
