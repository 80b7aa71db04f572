-- How the code checks the rows of a slate.
pub mod Lines
