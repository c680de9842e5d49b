pub mod MetDemands
pub mod Wants
