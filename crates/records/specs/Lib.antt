pub mod Events
pub mod Rows
pub mod Parts
pub mod Stores
pub mod Agreement
