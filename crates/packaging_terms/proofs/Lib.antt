pub mod Apart
pub mod VariantNames
pub mod Lists
pub mod Made
