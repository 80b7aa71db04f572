-- The proofs of the choice.
pub mod Asking
pub mod Passing
