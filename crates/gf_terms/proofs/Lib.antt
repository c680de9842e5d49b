pub mod Linear
pub mod Basis
pub mod Field
