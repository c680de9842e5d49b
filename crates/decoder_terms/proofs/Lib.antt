pub mod Chosen
pub mod Decoded
