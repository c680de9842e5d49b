pub mod Elimination
pub mod Kernel
pub mod Ranks
