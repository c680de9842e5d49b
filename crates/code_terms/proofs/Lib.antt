pub mod Evaluation
pub mod Packing
pub mod PlaceLaws
pub mod SlotLaws
pub mod WordLength
pub mod Faults
