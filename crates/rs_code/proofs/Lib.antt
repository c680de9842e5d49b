pub mod Slots
pub mod Turns
pub mod NumberTexts
pub mod FieldSize
pub mod Coefficients
