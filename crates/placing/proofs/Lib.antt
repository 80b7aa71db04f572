-- The proofs of the functions.
mod Writing
mod Telling
mod Entering
mod Replying
