pub mod Prefixes
pub mod BlobMaps
pub mod KnownBytes
pub mod Poured
pub mod Coming
