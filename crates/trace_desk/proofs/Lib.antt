pub mod Books
pub mod Known
pub mod InOrder
pub mod Tracing
pub mod CurveCosts
