pub mod TracedCopies
