pub mod Licensees
pub mod Variants
pub mod Making
pub mod Details
pub mod Pair
pub mod Film
