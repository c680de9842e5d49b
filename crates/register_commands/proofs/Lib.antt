pub mod Withdrawals
pub mod Enrolments
