pub mod Rows
pub mod Solutions
