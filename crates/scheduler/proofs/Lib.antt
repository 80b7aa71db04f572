-- The proofs of the functions, and the theorems and laws that rest on what a resource answers.
pub mod Theorems
pub mod Laws
