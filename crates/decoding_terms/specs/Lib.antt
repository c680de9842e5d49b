pub mod Least
pub mod Parameters
