-- Texts put one behind the other.
pub mod Putting
