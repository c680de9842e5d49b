pub mod Coefficients
pub mod Coverings
pub mod Distance
pub mod Examples
pub mod MergedTracing
pub mod Tracing
pub mod SameValues
