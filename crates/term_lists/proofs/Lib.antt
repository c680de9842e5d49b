pub mod Derivatives
pub mod Ordered
pub mod Pushed
pub mod PowerTables
pub mod Orders
