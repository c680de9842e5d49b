pub mod Designs
pub mod DesignRules
pub mod DesignText
pub mod Titles
pub mod TitleText
pub mod Pair
pub mod Film
