pub mod Packaging
