pub mod Distance
pub mod Coalition
pub mod Merged
