pub mod Cutting
pub mod Growing
pub mod Digits
pub mod WrittenDurations
pub mod WrittenLines
pub mod Written
pub mod Said
pub mod Allowed
