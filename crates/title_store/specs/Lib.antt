pub mod Cells
pub mod Builds
pub mod Reads
