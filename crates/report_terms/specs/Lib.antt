pub mod Reports
pub mod Values
pub mod Verdicts
pub mod Examples
