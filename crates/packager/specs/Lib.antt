pub mod Licences
pub mod Marking
pub mod Refusals
pub mod Builds
