-- Laws on plain values, for the proofs of this crate and of those above it.
pub mod Covering
pub mod Sweeping
pub mod Laying
pub mod Ending
