pub mod Texts
pub mod DeskFindings
pub mod LineFeeds
pub mod Again
