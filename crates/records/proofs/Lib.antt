pub mod Agreeing
pub mod Stopping
