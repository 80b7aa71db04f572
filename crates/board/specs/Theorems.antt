-- What the definitions amount to, and runs of them.
pub mod Meaning
pub mod Runs
