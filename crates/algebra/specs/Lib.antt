pub mod Ring
pub mod Sums
pub mod Series
pub mod Roots
pub mod Lists
pub mod Binomials
pub mod Bivariate
