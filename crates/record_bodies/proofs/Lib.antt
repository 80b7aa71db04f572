-- Laws of numbers and of lengths, for the proofs of this crate and of those above it.
pub mod Figures
pub mod Lengths
