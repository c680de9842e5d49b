pub mod TextLines
pub mod Forms
pub mod FirstFaults
