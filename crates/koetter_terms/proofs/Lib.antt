pub mod Places
pub mod Derivatives
pub mod Orders
pub mod Steps
