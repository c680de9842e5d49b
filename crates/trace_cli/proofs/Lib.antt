pub mod Prefixes
pub mod Coalitions
pub mod Packaged
pub mod TracedCopies
pub mod Checked
pub mod Promises
pub mod WantOfMemory
pub mod Built
