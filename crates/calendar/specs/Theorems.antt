-- What the definitions amount to, and edges computed on them.
pub mod Meaning
pub mod Runs
