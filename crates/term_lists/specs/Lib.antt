pub mod Extended
pub mod Places
pub mod Polynomials
