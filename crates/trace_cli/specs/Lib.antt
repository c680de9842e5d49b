pub mod Coalitions
pub mod Packaged
pub mod Checked
pub mod Headline
pub mod CommandLine
