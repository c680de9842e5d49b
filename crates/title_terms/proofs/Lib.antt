pub mod SayLaws
pub mod DesignLines
pub mod ListLines
pub mod MarkLines
pub mod DigestLines
pub mod Texts
pub mod DesignValues
