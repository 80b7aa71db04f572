-- The proofs of fitting resumable work.
mod Resuming
mod Walking
