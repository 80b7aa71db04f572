-- What is kept of the answers; the proofs of one round.
pub mod Finding
pub mod Noting
pub mod Inserting
pub mod Behind
pub mod Answers
pub mod Going
pub mod Settling
