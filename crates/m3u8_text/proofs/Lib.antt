pub mod Digits
pub mod Texts
pub mod MoreBytes
pub mod Written
