-- The proofs of the functions.
mod Lengths
pub mod Refusing
