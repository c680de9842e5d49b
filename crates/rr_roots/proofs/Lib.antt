pub mod Branching
pub mod Nodes
pub mod Tops
pub mod Spelling
