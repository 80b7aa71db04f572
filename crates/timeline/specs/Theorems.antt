-- What the definitions amount to.
pub mod Meaning
