pub mod LineLaws
pub mod FormLaws
pub mod FaultLaws
