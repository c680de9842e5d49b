pub mod Examples
pub mod Existence
pub mod LeastNumbers
pub mod Sizes
pub mod Squares
pub mod Terms
