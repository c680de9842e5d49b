pub mod Derivatives
pub mod Curves
pub mod State
