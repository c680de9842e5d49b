pub mod Cuts
pub mod NoTexts
