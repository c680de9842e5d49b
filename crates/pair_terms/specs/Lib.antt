pub mod Pairs
pub mod Recovery
pub mod Examples
