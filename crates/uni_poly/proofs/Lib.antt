pub mod Horner
pub mod Filling
pub mod Multiplying
pub mod RootsBelow
