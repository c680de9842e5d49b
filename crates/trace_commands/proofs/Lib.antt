pub mod Codes
pub mod Symbols
pub mod Reports
