pub mod Blobs
pub mod Counts
pub mod Causes
pub mod Puts
pub mod Told
