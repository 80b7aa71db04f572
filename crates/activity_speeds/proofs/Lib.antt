-- Laws on plain values, for the proofs of this crate and of those above it.
pub mod Rounding
pub mod Bounds
pub mod Nearness
pub mod Identity
