pub mod WordShape
pub mod CodeShape
pub mod Reading
