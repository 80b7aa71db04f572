-- The proofs of fitting.
pub mod Reading
