pub mod Written
pub mod ByTables
pub mod Zips
pub mod Lanes
pub mod Halves
pub mod Multiples
