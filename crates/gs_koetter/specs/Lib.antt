pub mod Shapes
pub mod Tables
pub mod States
pub mod Results
