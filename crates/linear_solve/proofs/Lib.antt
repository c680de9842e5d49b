pub mod Rows
pub mod Solved
pub mod Stage
pub mod Products
pub mod OnlyZero
pub mod Rank
pub mod Written
