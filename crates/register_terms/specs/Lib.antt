pub mod Enrolment
pub mod Rules
pub mod RegisterText
pub mod RegisterFaults
