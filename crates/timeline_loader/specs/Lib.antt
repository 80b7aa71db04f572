-- Document 01, 'Window or block' as a lent run: the reply, and the run as the loop takes it.
pub mod Run
pub mod Steps
-- The plainest terms, what the reply amounts to in them, and the laws behind it.
pub mod Plain
pub mod Theorems
pub mod Laws
