pub mod Requests
pub mod Names
pub mod Details
