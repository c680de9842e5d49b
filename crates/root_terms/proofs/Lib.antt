pub mod Lists
pub mod Shifts
pub mod Steps
pub mod Searches
pub mod Costs
pub mod Numbers
pub mod Orders
