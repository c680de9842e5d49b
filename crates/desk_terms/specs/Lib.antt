pub mod Roll
pub mod Findings
pub mod Bounds
pub mod Report
pub mod Examples
