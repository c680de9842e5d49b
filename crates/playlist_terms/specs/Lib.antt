pub mod Lines
pub mod TagValues
pub mod Durations
pub mod MediaLines
pub mod Playlists
pub mod Faults
pub mod Reading
pub mod Pair
