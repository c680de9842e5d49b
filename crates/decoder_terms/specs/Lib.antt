pub mod Decoding
pub mod Bounds
